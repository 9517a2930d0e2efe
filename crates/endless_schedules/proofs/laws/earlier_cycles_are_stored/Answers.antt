use Rattle.endless_schedules.proofs.Shared.{stored_before}
use Rattle.endless_schedules.proofs.laws.earlier_cycles_are_stored.Goals as goal

pub returns : goal.returns
returns c = λ rho m q c j d k w r differ. stored_before rho w m q c j d k r differ
