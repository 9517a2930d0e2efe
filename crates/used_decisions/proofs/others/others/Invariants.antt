use Rattle.std.proofs.Common.{◌≢◌}
use Rattle.used_decisions.specs.Steps.{TellsKeptOut}
use Rattle.used_decisions.proofs.Each.{AreTold}
use Rattle.used_decisions.proofs.others.others.Given as goal

abbrev pub invariant-loop-k : goal.invariant-loop-k
invariant-loop-k l = AreTold l.path (Unit {0}) (λ uses k. k ≢ l.m → TellsKeptOut l.path l.given uses l.r k) l.k-items l.fn.uses l.uses l.k-index
