use Rattle.std.proofs.Common.{◌≡◌, take}
use Rattle.used_decisions.specs.Ways.{decisions_of}
use Rattle.used_decisions.proofs.way.copied.Given as goal

abbrev pub invariant-loop-one : goal.invariant-loop-one
invariant-loop-one l = l.decisions.items ≡ take l.one-index (decisions_of l.taken)
