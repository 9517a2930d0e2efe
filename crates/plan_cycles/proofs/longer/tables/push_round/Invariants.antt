use Rattle.std.proofs.Common.{◌≡◌, ◌++◌, map}
use Rattle.std.specs.List.{flat_map, range_with_len}
use Rattle.medl_tables.specs.Text.{row_line}
use Rattle.plan_cycles.specs.Rounds.{empty_row}
use Rattle.plan_cycles.proofs.longer.tables.push_round.Given as goal

abbrev pub invariant-loop-k : goal.invariant-loop-k
invariant-loop-k l = l.lines.items ≡ l.initial.lines.items ++ flat_map (row_line l.instance) (map (empty_row l.plan l.round) (range_with_len 0 l.k))
