use Rattle.std.proofs.Common.{arith}
use Rattle.std.proofs.lemmas.List.FromFn.{map-range_with_len_more}
use Rattle.std.proofs.lemmas.Grind.{common_steps}
use Rattle.instance_variants.specs.Grown.{grown_process}
use Rattle.instance_variants.specs.Longer.{longer_by}
use Rattle.instance_variants.proofs.longer.longer_processes.Goals as goal

pub loop-p-preserved : goal.loop-p-preserved
loop-p-preserved c =
    let longer = grown_process c.args.instance.now (longer_by c.args.instance.now c.args.processes.now c.args.scale c.args.x) in
    let more = map-range_with_len_more longer 0 c.loop-p.p c.loop-p.p (omega arith) in
    grind (arith, common_steps, more)
