use Rattle.used_decisions.specs.Steps.{TellsRival}
use Rattle.used_decisions.proofs.Each.{AreTold}
use Rattle.used_decisions.proofs.orders.rivals.Given as goal

abbrev pub invariant-loop-x : goal.invariant-loop-x
invariant-loop-x l = AreTold l.path (Unit {0}) (λ uses x. TellsRival l.path l.given uses l.p x) l.x-items l.fn.uses l.uses l.x-index
