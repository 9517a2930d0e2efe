use Rattle.used_decisions.specs.Steps.{TellsArrival}
use Rattle.used_decisions.proofs.Each.{AreTold}
use Rattle.used_decisions.proofs.orders.arrivals.Given as goal

abbrev pub invariant-loop-m : goal.invariant-loop-m
invariant-loop-m l = AreTold l.path (Unit {0}) (λ uses m. TellsArrival l.path l.given uses m) l.m-items l.fn.uses l.uses l.m-index
