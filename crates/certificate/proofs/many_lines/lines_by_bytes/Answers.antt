use Rattle.std.proofs.Common.{arith}
use Rattle.certificate.proofs.RawLines.{end_follows, byte_follows}
use Rattle.certificate.proofs.many_lines.lines_by_bytes.Goals as goal
use Rattle.certificate.proofs.many_lines.lines_by_bytes.Goals.{then-held-k-eq10, else-held-k-eq10}

pub loop-k-preserved : goal.loop-k-preserved
loop-k-preserved c = elim c.if-held-k-eq10.branch [
  | then-held-k-eq10 w ↦
      let both = end_follows c.loop-k.ends c.if-held-k-eq10.ends c.loop-k.k c.args.held.now w.ends-is c.loop-k-test.true w.if-held-k-eq10.true c.loop-k.invariant.begun in
      record {
        within = omega arith;
        few = omega arith;
        begun = both.0;
        whole = λ is. rw (← is) both.1;
      }
  | else-held-k-eq10 w ↦ record {
    within = omega arith;
    few = omega arith;
    begun = rw w.ends-is (byte_follows c.loop-k.ends c.loop-k.k c.args.held.now c.loop-k-test.true w.if-held-k-eq10.false c.loop-k.invariant.begun);
    whole = λ is. absurd (omega arith);
  }
]
