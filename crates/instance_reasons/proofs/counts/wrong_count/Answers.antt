use Rattle.std.proofs.Common.{◌<◌, arith}
use Rattle.ttp_model.specs.Parts.{instance_of}
use Rattle.instance_reasons.specs.Counts.{count_of}
use Rattle.instance_reasons.proofs.Failing.{many}
use Rattle.instance_reasons.proofs.counts.wrong_count.Goals as goal

pub too_many-requires : goal.too_many-requires
too_many-requires c =
    let i = instance_of c.args.parts.now in
    let some : 0 < count_of i c.args.list = omega arith in
    rw c.count_of-entries.ensures (many i c.args.list c.requires some)
