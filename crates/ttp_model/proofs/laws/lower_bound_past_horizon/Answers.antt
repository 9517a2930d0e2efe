use Rattle.ttp_model.proofs.ValidPlans.{bound_is_none}
use Rattle.ttp_model.proofs.laws.lower_bound_past_horizon.Goals as goal

pub returns : goal.returns
returns c = λ i w. (bound_is_none i w, λ none plan v. absurd (none plan v))
