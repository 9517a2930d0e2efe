use Rattle.std.proofs.Common.{◌≡◌, arith, inl, inr}
use Rattle.certificate_reasons.proofs.nodes.leaf_reason.Goals as goal

pub low_goal-requires : goal.low_goal-requires
low_goal-requires c = (rw c.in-LowGoal.is at c.requires.fault).1

pub refused_step-requires-clause-refused : goal.refused_step-requires-clause-refused
refused_step-requires-clause-refused c =
    let refused = (rw c.in-RefusedStep.is at c.requires.fault).1 in
    let place : refused.0 ≡ c.saturating_sub-place.result = omega (arith, refused.1, c.saturating_sub-place.ensures) in
    rw (c.as_slice-steps.ensures.value, ← place) refused.2

pub returns-in-LowGoal : goal.returns-in-LowGoal
returns-in-LowGoal c = rw c.in-LowGoal.is c.low_goal.ensures

pub returns-in_ok-step-in-RefusedStep : goal.returns-in_ok-step-in-RefusedStep
returns-in_ok-step-in-RefusedStep c = rw c.in-RefusedStep.is (rw (c.as_slice-steps.ensures.value, c.saturating_sub-place.ensures) at c.in_ok-step-in-RefusedStep.ensures)

pub returns-in-NotClosed : goal.returns-in-NotClosed
returns-in-NotClosed c = rw c.in-NotClosed.is tt

pub unreachable-requires : goal.unreachable-requires
unreachable-requires c = elim c.in-ChildCount.is [
  | inl count ↦ rw count at c.requires.fault
  | inr shut ↦ rw shut at c.requires.fault
]
