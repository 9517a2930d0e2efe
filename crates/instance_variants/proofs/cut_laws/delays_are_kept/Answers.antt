use Rattle.instance_variants.proofs.CutEnds.{delay_kept}
use Rattle.instance_variants.proofs.cut_laws.delays_are_kept.Goals as goal

pub returns : goal.returns
returns c = delay_kept
