use Rattle.std.proofs.Common.{length}
use Rattle.used_decisions.proofs.pass.Pass.take_in.Given as goal

abbrev pub decreases-loop-open : goal.decreases-loop-open
decreases-loop-open l = length l.self.above.items
