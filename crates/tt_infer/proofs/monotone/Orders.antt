-- The steps that tell which of two processes goes first tell it inside too.
use Rattle.std.proofs.Common.{ℕ, arith, refl}
use Rattle.ttp_model.specs.declared.step.Step.TheVariants.{OrdWindow, OrdTwin}
use Rattle.sought_plans.specs.Known.{Known}
use Rattle.sought_plans.specs.Conclusions.{GoesFirst}
use Rattle.tt_infer.proofs.monotone.Nested.{Nested, AreKnown, IsKept}

pub ord_window_kept : (s : Nested) (f h : Known) (p q : ℕ) → AreKnown s f h → IsKept s f h (OrdWindow p q)
ord_window_kept s f h p q t k there premise is = record {
  there = there;
  premise = omega (arith, premise, t.sharper.le p, t.sharper.es q);
  conclusion = GoesFirst p q;
  concludes = refl;
  stronger = is;
}

pub ord_twin_kept : (s : Nested) (f h : Known) (p q : ℕ) → IsKept s f h (OrdTwin p q)
ord_twin_kept s f h p q k there premise is = record { there = there; premise = premise; conclusion = GoesFirst p q; concludes = refl; stronger = is }
