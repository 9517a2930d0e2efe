use Rattle.std.proofs.Common.{◌<◌, length}
use Rattle.used_decisions.specs.Steps.{TellsAside}
use Rattle.used_decisions.proofs.Each.{AreTold}
use Rattle.used_decisions.proofs.mirrors.each_lower.Given as goal

abbrev pub invariant-loop-k : goal.invariant-loop-k
invariant-loop-k l =
    AreTold l.path (l.m < length l.path.instance.messages) (λ uses k. k < l.m → TellsAside l.path l.given uses l.m k) l.k-items l.fn.uses l.uses l.k-index
