use Rattle.plan_cycles.specs.Rounds.{AreLinesBehind}
use Rattle.plan_cycles.proofs.longer.tables.lines_behind.Given as goal

abbrev pub invariant-loop-round : goal.invariant-loop-round
invariant-loop-round l = AreLinesBehind l.round l.instance l.plan l.lines.items
