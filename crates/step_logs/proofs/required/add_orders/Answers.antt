use Rattle.std.proofs.Common.{length, arith, ap, inl, inr}
use Rattle.std.proofs.lemmas.Bool.{cases_eq}
use Rattle.step_logs.proofs.required.add_orders.Goals as goal

pub loop-p-preserved : goal.loop-p-preserved
loop-p-preserved c =
    let more = c.in_ok-add_orders_of.ensures in
    record {
      kept = λ step has. more.kept step (c.loop-p.invariant.kept step has);
      added = λ k q below inside holds. elim (cases_eq k c.loop-p.p) [
        | inl same ↦ rw same (more.added q inside (rw same at holds))
        | inr other ↦ more.kept _ (c.loop-p.invariant.added k q (omega (arith, below, other)) inside holds)
      ];
    }

pub returns-clause-added : goal.returns-clause-added
returns-clause-added c = λ p q holds.
    let pair = c.requires.pairs p q holds in
    let all = ap length c.processes.ensures.value in
    c.loop-p.invariant.added p q (omega (arith, pair.first, all, c.loop-p-test.false)) (omega (arith, pair.second, all)) holds
