-- Processes that go earlier in the order of their starts, each with the messages that it sends.
use Rattle.std.proofs.Common.{◌≡◌, ℕ, ◌+◌, ◌<◌, ◌≤◌, min, List, length, slice_index, arith, inl, inr, refl, below_more}
use Rattle.std.proofs.lemmas.Bool.{cases_lt}
use Rattle.ttp_model.specs.declared.plan.Plan.{Plan}
use Rattle.ttp_model.specs.Lists.{EachBelow}
use Rattle.ttp_model.specs.Instance.{Instance, message_at}
use Rattle.ttp_model.specs.Rules.{IsInstance}
use Rattle.ttp_model.specs.Plans.{IsValid, start_of}
use Rattle.ttp_model.proofs.PlanNumbers.{start_below_horizon, sender_inside}
use Rattle.tt_settle.specs.Settling.{RestsBefore, RestsInTime, RestsWithMessages}
use Rattle.tt_settle.specs.Settling.{IsNextStart}

-- one more start is seen
pub next_more : (starts : List ℕ) (from k time start : ℕ) → start ≡ slice_index starts k → IsNextStart starts from k time → IsNextStart starts from (k + 1) (min time start)
next_more starts from k time start is next = below_more _ k (λ j lt late. omega (arith, next j lt late)) (λ late. omega (arith, is))

-- one that is too early
pub next_same : (starts : List ℕ) (from k time start : ℕ) → start ≡ slice_index starts k → start < from → IsNextStart starts from k time → IsNextStart starts from (k + 1) time
next_same starts from k time start is early next = below_more _ k next (λ late. absurd (omega (arith, is, late, early)))

-- after those before a time, those of the next start
pub rests_next : (i : Instance) (plan : Plan) (from time : ℕ) → IsValid i plan → IsNextStart plan.starts from (length plan.starts) time → RestsBefore i from plan → EachBelow (length i.processes) (λ p. start_of plan p ≡ time → RestsWithMessages i plan p) → RestsBefore i (time + 1) plan
rests_next i plan from time v next before here p inside early = elim (cases_lt (start_of plan p) from) [
  | inl less ↦ before p inside less
  | inr late ↦
      let after = next p (omega (arith, inside, v.lengths.starts)) late in
      here p inside (omega (arith, after, early))
]

-- before the horizon are all
pub rests_all : (i : Instance) (plan : Plan) (from : ℕ) → IsInstance i → IsValid i plan → i.cluster.horizon ≤ from → RestsBefore i from plan → RestsInTime i plan
rests_all i plan from w v over before = record {
  starts = λ p inside. (each p inside).start;
  rounds = λ m inside. (each (message_at i m).sender (sender_inside i plan w v m inside)).rounds m inside refl;
}
  where
    each : (p : ℕ) → p < length i.processes → RestsWithMessages i plan p
    each p inside = before p inside (omega (arith, over, start_below_horizon i plan w v p inside))
