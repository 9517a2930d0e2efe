use Rattle.instance_variants.proofs.CutPlans.{end_by_of_cut, valid_cut, valid_of_cut}
use Rattle.instance_variants.proofs.cut_laws.cut_deadlines_end_by.Goals as goal

pub returns : goal.returns
returns c = λ i ps d plan are. (λ v. (valid_of_cut i ps d plan v, end_by_of_cut i ps d plan are v), λ both. valid_cut i ps d plan both.0 both.1)
