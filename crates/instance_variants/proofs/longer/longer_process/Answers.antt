use Rattle.std.proofs.Common.{arith}
use Rattle.instance_variants.proofs.LongerRuns.{longer_small}
use Rattle.instance_variants.proofs.longer.longer_process.Goals as goal

pub overflow_cast-more : goal.overflow_cast-more
overflow_cast-more c =
    let small = longer_small c.args.instance.now c.args.processes.now c.args.scale c.args.x c.requires.rules c.args.p c.requires.there in
    omega (arith, small, c.longer_by-more.ensures)

pub overflow_add-result : goal.overflow_add-result
overflow_add-result c =
    let small = longer_small c.args.instance.now c.args.processes.now c.args.scale c.args.x c.requires.rules c.args.p c.requires.there in
    omega (arith, small, c.longer_by-more.ensures, c.process_at-process.ensures.value)
