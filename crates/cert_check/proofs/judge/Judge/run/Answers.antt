use Rattle.std.proofs.Common.{Ok, Err}
use Rattle.cert_check.proofs.Runs.{none_judged, one_judged, leaf_waits_here, judged_on, judged_fault}
use Rattle.cert_check.proofs.judge.Judge.run.Goals as goal

pub loop-k-init : goal.loop-k-init
loop-k-init g c = record {
  of = c.requires.of;
  closed = none_judged c.args.self.now.instance.now c.args.self.now.low;
}

pub returns-in-Err-clause-err : goal.returns-in-Err-clause-err
returns-in-Err-clause-err g c =
    let i = c.args.self.now.instance.now in
    let low = c.args.self.now.low in
    let h = c.index-run-k.result in
    let waits = leaf_waits_here c.args.run.now c.loop-k.k h c.loop-k-test.true c.index-run-k.is i c.requires.waits in
    judged_fault c.args.run.now c.loop-k.k h c.loop-k-test.true c.index-run-k.is i low c.loop-k.invariant.closed c.in-Err.fault
    (one_judged i low h (Err c.in-Err.fault) waits c.in-Err.ensures.err)

pub loop-k-preserved : goal.loop-k-preserved
loop-k-preserved g c =
    let i = c.args.self.now.instance.now in
    let low = c.args.self.now.low in
    let h = c.index-run-k.result in
    let waits = leaf_waits_here c.args.run.now c.loop-k.k h c.loop-k-test.true c.index-run-k.is i c.requires.waits in
    record {
      of = c.in-Ok.ensures.of;
      closed =
          judged_on c.args.run.now c.loop-k.k h c.loop-k-test.true c.index-run-k.is i low c.loop-k.invariant.closed
          (one_judged i low h (Ok tt) waits c.in-Ok.ensures.ok);
    }
