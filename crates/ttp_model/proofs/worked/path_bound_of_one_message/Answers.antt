use Rattle.ttp_model.proofs.OneMessage.{path_bound}
use Rattle.ttp_model.proofs.worked.path_bound_of_one_message.Goals as goal

pub returns : goal.returns
returns c = path_bound
