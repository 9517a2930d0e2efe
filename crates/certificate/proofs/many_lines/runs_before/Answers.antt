use Rattle.std.proofs.Common.{arith}
use Rattle.certificate.proofs.Runs.{run_size, run_more}
use Rattle.certificate.proofs.many_lines.runs_before.Goals as goal

pub loop-k-preserved : goal.loop-k-preserved
loop-k-preserved c = record {
  few = run_size c.args.held.now c.loop-k.k c.ends_in-more.result c.loop-k.ends c.ends_in-more.ensures.few c.loop-k.invariant.few;
  left = omega (arith, c.if-more-count.false, c.loop-k.invariant.left);
  begun = run_more c.loop-k.ends c.ends_in-more.result c.loop-k.k c.args.held.now c.loop-k.invariant.begun c.ends_in-more.ensures.begun;
}
