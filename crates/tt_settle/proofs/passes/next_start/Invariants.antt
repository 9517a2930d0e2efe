use Rattle.std.proofs.Common.{◌≤◌}
use Rattle.tt_settle.specs.Settling.{IsNextStart}
use Rattle.tt_settle.proofs.passes.next_start.Given as goal

abbrev pub invariant-loop-k : goal.invariant-loop-k
invariant-loop-k l = (l.from ≤ l.next) × (l.next ≤ l.horizon) × IsNextStart l.starts l.from l.k l.next
