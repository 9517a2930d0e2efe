use Rattle.instance_variants.proofs.CutEnds.{later_end}
use Rattle.instance_variants.proofs.cut_laws.no_plan_is_a_later_end.Goals as goal

pub returns : goal.returns
returns c = later_end
