use Rattle.std.proofs.Common.{length, ◌-◌}
use Rattle.used_decisions.proofs.copies.copies.Given as goal

abbrev pub decreases-loop-k : goal.decreases-loop-k
decreases-loop-k l = length l.nodes - l.k
