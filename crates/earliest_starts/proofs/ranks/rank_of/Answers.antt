use Rattle.std.proofs.Common.{arith}
use Rattle.earliest_starts.proofs.Rings.{rank_next, rank_stays}
use Rattle.earliest_starts.proofs.ranks.rank_of.Goals as goal
use Rattle.earliest_starts.proofs.ranks.rank_of.Goals.{then-is_before, else-is_before}

pub loop-q-preserved : goal.loop-q-preserved
loop-q-preserved c =
    let h = c.loop-q.invariant in
    elim c.if-is_before.branch [
      | then-is_before w ↦
          let holds = rw c.is_before.ensures at w.if-is_before.true in
          rw w.rank-is (rank_next c.args.choice.now c.args.p c.loop-q.q c.loop-q.rank h.0 holds, omega arith)
      | else-is_before w ↦
          let not = rw c.is_before.ensures at w.if-is_before.false in
          rw w.rank-is (rank_stays c.args.choice.now c.args.p c.loop-q.q c.loop-q.rank h.0 not, omega arith)
    ]
