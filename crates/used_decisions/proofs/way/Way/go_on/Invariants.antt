use Rattle.std.proofs.Common.{◌≡◌, take}
use Rattle.used_decisions.proofs.way.Way.go_on.Given as goal

abbrev pub invariant-loop-k : goal.invariant-loop-k
invariant-loop-k l = l.self ≡ record l.fn.self { decisions = take l.k l.decisions }
