use Rattle.std.proofs.Common.{◌≡◌, take}
use Rattle.used_decisions.specs.Ways.{decisions_of}
use Rattle.used_decisions.proofs.way.shared.Given as goal

abbrev pub invariant-loop-k : goal.invariant-loop-k
invariant-loop-k l = take l.k (decisions_of l.taken) ≡ take l.k l.decisions
