use Rattle.std.proofs.Common.{arith}
use Rattle.std.proofs.lemmas.List.FromFn.{map-range_with_len_more}
use Rattle.std.proofs.lemmas.Grind.{common_steps}
use Rattle.instance_variants.specs.Cut.{cut_process}
use Rattle.instance_variants.proofs.cut.cut_processes.Goals as goal

pub loop-p-preserved : goal.loop-p-preserved
loop-p-preserved c =
    let more = map-range_with_len_more (cut_process c.args.instance.now c.args.processes.now c.args.d) 0 c.loop-p.p c.loop-p.p (omega arith) in
    grind (arith, common_steps, more)
