use Rattle.search_core.proofs.Cover.{bounded}
use Rattle.search_core.proofs.laws.bounds_hold.Goals as goal

pub returns : goal.returns
returns c = bounded
