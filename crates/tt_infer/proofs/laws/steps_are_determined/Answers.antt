use Rattle.tt_infer.proofs.Determined.{IsLawful-determined, Lead-determined, Takes-determined}
use Rattle.tt_infer.proofs.laws.steps_are_determined.Goals as goal

pub returns : goal.returns
returns c = record { one = IsLawful-determined; several = Lead-determined; answers = Takes-determined }
