use Rattle.std.proofs.Common.{◌≡◌, ◌≤◌, length, take}
use Rattle.used_decisions.proofs.way.Way.go_back.Given as goal

abbrev pub decreases-loop-self : goal.decreases-loop-self
decreases-loop-self l = length l.self.decisions

abbrev pub invariant-loop-self : goal.invariant-loop-self
invariant-loop-self l = record {
  instance : l.self.instance ≡ l.fn.self.instance;
  goal : l.self.goal ≡ l.fn.self.goal;
  first : l.self.decisions ≡ take (length l.self.decisions) l.fn.self.decisions;
  most : l.count ≤ length l.self.decisions;
}
