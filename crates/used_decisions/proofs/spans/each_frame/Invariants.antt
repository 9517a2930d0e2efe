use Rattle.used_decisions.specs.Steps.{TellsFrame}
use Rattle.used_decisions.proofs.Each.{AreTold}
use Rattle.used_decisions.proofs.spans.each_frame.Given as goal

abbrev pub invariant-loop-m : goal.invariant-loop-m
invariant-loop-m l = AreTold l.path (Unit {0}) (λ uses m. TellsFrame l.path l.given uses l.a l.b m) l.m-items l.fn.uses l.uses l.m-index
