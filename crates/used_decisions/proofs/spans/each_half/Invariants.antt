use Rattle.std.proofs.Common.{◌≤◌}
use Rattle.used_decisions.specs.Steps.{TellsHalf}
use Rattle.used_decisions.proofs.Each.{AreTold}
use Rattle.used_decisions.proofs.spans.each_half.Given as goal

abbrev pub invariant-loop-m : goal.invariant-loop-m
invariant-loop-m l =
    AreTold l.path (2 ≤ l.path.instance.cluster.channels) (λ uses m. TellsHalf l.path l.given uses l.k l.a l.b m) l.m-items l.fn.uses l.uses l.m-index
