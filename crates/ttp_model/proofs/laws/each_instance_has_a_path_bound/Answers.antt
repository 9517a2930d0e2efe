use Rattle.ttp_model.proofs.Walks.{path_bound_some}
use Rattle.ttp_model.proofs.laws.each_instance_has_a_path_bound.Goals as goal

pub returns : goal.returns
returns c = path_bound_some
