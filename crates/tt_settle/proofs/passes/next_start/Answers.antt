use Rattle.std.proofs.Common.{arith}
use Rattle.tt_settle.proofs.Passing.{next_more, next_same}
use Rattle.tt_settle.proofs.passes.next_start.Goals as goal
use Rattle.tt_settle.proofs.passes.next_start.Goals.{then-start-from, else-start-from}

pub loop-k-preserved : goal.loop-k-preserved
loop-k-preserved c =
    let seen = c.loop-k.invariant in
    elim c.if-start-from.branch [
      | then-start-from w ↦ rw (w.next-is, w.min-next.ensures) (omega (arith, seen.0, w.if-start-from.true), omega (arith, seen.1), next_more c.args.starts.now c.args.from c.loop-k.k c.loop-k.next c.from-start.result c.from-start.ensures seen.2)
      | else-start-from w ↦ rw w.next-is (seen.0, seen.1, next_same c.args.starts.now c.args.from c.loop-k.k c.loop-k.next c.from-start.result c.from-start.ensures w.if-start-from.false seen.2)
    ]
