use Rattle.std.proofs.Common.{arith}
use Rattle.ttp_model.specs.Plans.{bytes_on}
use Rattle.ttp_model.proofs.Totals.{total_next}
use Rattle.plan_facts.proofs.frames.load_on.Goals as goal

pub loop-m-preserved : goal.loop-m-preserved
loop-m-preserved c =
    let more = total_next (bytes_on c.args.instance.now c.args.plan.now c.args.n c.args.r c.args.c) c.loop-m.m in
    let bytes = c.bytes_on.ensures in
    (omega (arith, more, bytes.value, c.from-load.ensures, c.loop-m.invariant.0), omega (arith, bytes.bound, c.from-load.ensures, c.loop-m.invariant.1))
