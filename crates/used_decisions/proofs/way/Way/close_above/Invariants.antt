use Rattle.std.proofs.Common.{◌≡◌, ℕ, ◌≤◌}
use Rattle.used_decisions.specs.Proved.{IsProvedBy}
use Rattle.used_decisions.proofs.way.Way.close_above.Given as goal

abbrev pub invariant-loop : goal.invariant-loop
invariant-loop l = record {
  instance : l.self.instance ≡ l.fn.self.instance;
  goal : l.self.goal ≡ l.fn.self.goal;
  proved : (low : ℕ) → low ≤ l.self.goal → IsProvedBy l.self.instance low l.used l.self.decisions;
}
