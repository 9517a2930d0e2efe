use Rattle.tt_infer.proofs.FirstFacts.{first_inference}
use Rattle.std.proofs.Common.{refl}
use Rattle.tt_infer.proofs.facts.Facts.turned.Goals as goal

pub invariant_of-result : goal.invariant_of-result
invariant_of-result c = rw (c.in_ok-known.ensures, c.instance.ensures, c.choice.ensures.value, ← c.setting.view_is) (first_inference _ _ _ c.setting.invariant.instance c.setting.invariant.choice)

pub returns : goal.returns
returns c = rw (← c.self.view_is, c.in_ok-known.ensures, c.instance.ensures, c.choice.ensures.value, c.in_ok-setting.ensures) refl

pub restarted-requires : goal.restarted-requires
restarted-requires c = rw (c.instance.ensures, c.choice.ensures.value) c.choice.ensures.of

pub turned-requires : goal.turned-requires
turned-requires c = record { of = rw (← c.self.view_is) at c.requires }
