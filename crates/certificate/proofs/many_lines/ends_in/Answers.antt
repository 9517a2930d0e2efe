use Rattle.std.proofs.Common.{arith}
use Rattle.certificate.proofs.RawLines.{end_follows, byte_follows}
use Rattle.certificate.proofs.many_lines.ends_in.Goals as goal
use Rattle.certificate.proofs.many_lines.ends_in.Goals.{then-text-k-eq10, else-text-k-eq10}

pub loop-k-preserved : goal.loop-k-preserved
loop-k-preserved c = elim c.if-text-k-eq10.branch [
  | then-text-k-eq10 w ↦
      let both = end_follows c.loop-k.ends c.if-text-k-eq10.ends c.loop-k.k c.args.text.now w.ends-is c.loop-k-test.true w.if-text-k-eq10.true c.loop-k.invariant.begun in
      record {
        few = omega arith;
        begun = both.0;
      }
  | else-text-k-eq10 w ↦ record {
    few = omega arith;
    begun = rw w.ends-is (byte_follows c.loop-k.ends c.loop-k.k c.args.text.now c.loop-k-test.true w.if-text-k-eq10.false c.loop-k.invariant.begun);
  }
]
