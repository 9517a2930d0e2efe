-- A process waits no longer inside.
use Rattle.std.proofs.Common.{ℕ, ◌+◌, ◌-◌, ◌≤◌, arith, inl, inr, refl, IsFalse}
use Rattle.std.proofs.lemmas.Bool.{cases_Bool, both_ways}
use Rattle.ttp_model.specs.declared.step.Step.TheVariants.{UsSettled}
use Rattle.sought_plans.specs.Known.{Known, top_of, bef_of}
use Rattle.sought_plans.specs.Conclusions.{EndsUntil}
use Rattle.sought_plans.specs.Premises.{wcet_of}
use Rattle.sought_plans.specs.Dominance.{MayGoBefore, MayWaitUntil, HasRounds}
use Rattle.sought_plans.proofs.GreatestWaits.{greatest_wait}
use Rattle.tt_infer.proofs.monotone.Nested.{Nested, AreKnown, IsKept}
use Rattle.tt_infer.proofs.monotone.Slots.{end_most_down}

unknown_outside : (s : Nested) (f h : Known) (p x : ℕ) → AreKnown s f h → IsFalse (bef_of h p x) → IsFalse (bef_of f p x)
unknown_outside s f h p x t unknown = elim (cases_Bool (bef_of f p x)) [
  | inl is ↦ absurd (both_ways _ unknown (t.sharper.bef p x is))
  | inr not ↦ not
]

-- what may go before p inside may do so outside
may_go_outside : (s : Nested) (f h : Known) (p x : ℕ) → AreKnown s f h → MayGoBefore s.instance h p x → MayGoBefore s.instance f p x
may_go_outside s f h p x t may = record { other = may.other; one_node = may.one_node; not_known = unknown_outside s f h p x t may.not_known; no_link = may.no_link }

-- so all is over inside when all is over outside
may_wait_inside : (s : Nested) (f h : Known) (p time : ℕ) → AreKnown s f h → MayWaitUntil s.instance s.outer f p time → MayWaitUntil s.instance s.inner h p time
may_wait_inside s f h p time t wait = record {
  release = wait.release;
  others = λ x there may.
      let over = wait.others x there (may_go_outside s f h p x t may) in
      omega (arith, over, t.sharper.le x);
  messages = λ m is.
      let over = wait.messages m is in
      let down = end_most_down s m is.0 (top_of f m - 1) (top_of h m - 1) (omega (arith, t.sharper.top m)) in
      omega (arith, over, down);
}

-- where each message to p has a round left inside
pub us_settled_kept : (s : Nested) (f h : Known) (p : ℕ) → AreKnown s f h → HasRounds s.instance h p → IsKept s f h (UsSettled p)
us_settled_kept s f h p t some k there premise is =
    let wait = greatest_wait s.instance s.inner h p in
    let sooner : wait.0 ≤ is.0 = wait.1.least is.0 (may_wait_inside s f h p is.0 t is.1.wait) in
    record {
      there = there;
      premise = some;
      conclusion = EndsUntil p (wcet_of s.instance p + wait.0);
      concludes = (wait.0, wait.1, refl);
      stronger = (wcet_of s.instance p + is.0, is.2, omega (arith, sooner));
    }
