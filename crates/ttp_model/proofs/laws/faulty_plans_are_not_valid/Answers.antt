use Rattle.ttp_model.proofs.FaultyPlans.{faulty_is_not_valid}
use Rattle.ttp_model.proofs.laws.faulty_plans_are_not_valid.Goals as goal

pub returns : goal.returns
returns c = faulty_is_not_valid
