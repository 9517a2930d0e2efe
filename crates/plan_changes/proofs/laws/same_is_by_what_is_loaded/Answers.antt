use Rattle.plan_changes.proofs.Loaded.{same-loaded_alike}
use Rattle.plan_changes.proofs.laws.same_is_by_what_is_loaded.Goals as goal

pub returns : goal.returns
returns c = λ old new name. same-loaded_alike old new name
