use Rattle.std.proofs.Common.{arith, inl, inr}
use Rattle.std.proofs.lemmas.Bool.{cases_eq, both_ways}
use Rattle.step_logs.proofs.Lists.{keeps_pushed, has_pushed}
use Rattle.step_logs.proofs.required.add_orders_of.Goals as goal
use Rattle.step_logs.proofs.required.add_orders_of.Goals.{then-is_before+in_ok-add, else-is_before}

pub loop-q-preserved : goal.loop-q-preserved
loop-q-preserved c = elim c.if-is_before.branch [
  | then-is_before+in_ok-add w ↦ rw (w.steps-is, w.in_ok-add.ensures) (record {
    kept = λ step has. keeps_pushed _ _ step (c.loop-q.invariant.kept step has);
    added = λ k below holds. elim (cases_eq k c.loop-q.q) [
      | inl same ↦ rw same (has_pushed _ _)
      | inr other ↦ keeps_pushed _ _ _ (c.loop-q.invariant.added k (omega (arith, below, other)) holds)
    ];
  })
  | else-is_before w ↦ rw w.steps-is (record {
    kept = c.loop-q.invariant.kept;
    added = λ k below holds. elim (cases_eq k c.loop-q.q) [
      | inl same ↦ absurd (both_ways _ (rw c.is_before.ensures at w.if-is_before.false) (rw same at holds))
      | inr other ↦ c.loop-q.invariant.added k (omega (arith, below, other)) holds
    ];
  })
]
