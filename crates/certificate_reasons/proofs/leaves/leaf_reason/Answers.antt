-- A leaf that closes leads on from what is known at first.
use Rattle.std.proofs.Common.{refl}
use Rattle.certificate_reasons.proofs.leaves.leaf_reason.Goals as goal

pub told_steps-requires : goal.told_steps-requires
told_steps-requires c = rw (c.in_ok-facts.ensures, c.as_slice-steps.ensures.value) (c.requires.closes.0, c.requires.closes.1)

pub returns : goal.returns
returns c = record {
  goal_is = refl;
  settled_is = rw c.as_slice-steps.ensures.value at c.needs_settled.ensures;
  steps_are = rw (c.in_ok-facts.ensures, c.as_slice-steps.ensures.value) at c.in_ok-told.ensures;
  more_is = rw c.as_slice-steps.ensures.value at c.saturating_sub.ensures;
}
