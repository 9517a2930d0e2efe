use Rattle.instance_variants.proofs.CutEnds.{each_by_last, last_by_each}
use Rattle.instance_variants.proofs.cut_laws.ends_are_by.Goals as goal

pub returns : goal.returns
returns c = λ i ps plan d. (each_by_last i ps plan d, last_by_each i ps plan d)
