use Rattle.earliest_starts.proofs.Sound.{waits_le}
use Rattle.earliest_starts.proofs.laws.reasons_hold_in_each_plan.Goals as goal

pub returns : goal.returns
returns c = λ i d plan p time w ok done v is waits. waits_le i d plan w ok done v is p time waits
