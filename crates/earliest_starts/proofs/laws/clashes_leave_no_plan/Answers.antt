use Rattle.earliest_starts.proofs.Sound.{IsBarren-clash}
use Rattle.earliest_starts.proofs.laws.clashes_leave_no_plan.Goals as goal

pub returns : goal.returns
returns c = λ i d clash w ok done is. IsBarren-clash i d clash w ok done is
