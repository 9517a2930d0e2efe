use Rattle.std.proofs.Common.{◌≡◌, take}
use Rattle.search_workers.proofs.run.begins_with.Given as goal

abbrev pub invariant-loop-k : goal.invariant-loop-k
invariant-loop-k l = take l.k l.decisions ≡ take l.k l.front
