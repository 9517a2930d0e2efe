use Rattle.std.proofs.Common.{◌≡◌}
use Rattle.std.specs.List.{flat_map, range_with_len}
use Rattle.medl_tables.specs.Rows.{round_rows}
use Rattle.medl_tables.proofs.rows.rows_of.Given as goal

abbrev pub invariant-loop-round : goal.invariant-loop-round
invariant-loop-round l = l.rows.items ≡ flat_map (round_rows l.instance l.plan l.node) (range_with_len 0 l.round)
