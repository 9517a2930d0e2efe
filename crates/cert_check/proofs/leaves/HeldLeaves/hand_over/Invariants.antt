use Rattle.std.proofs.Common.{◌≡◌, length}
use Rattle.cert_check.proofs.leaves.HeldLeaves.hand_over.Given as goal

abbrev pub invariant-leaves : goal.invariant-leaves
invariant-leaves l = l.self.most ≡ l.fn.self.most

abbrev pub decreases-leaves : goal.decreases-leaves
decreases-leaves l = length l.self.leaves.items
