use Rattle.std.proofs.Common.{◌≡◌, ◌++◌, map}
use Rattle.std.specs.List.{range_with_len}
use Rattle.medl_tables.specs.Rows.{row_of}
use Rattle.medl_tables.proofs.rows.push_round.Given as goal

abbrev pub invariant-loop-k : goal.invariant-loop-k
invariant-loop-k l = l.rows.items ≡ l.initial.rows.items ++ map (row_of l.instance l.plan l.node l.round) (range_with_len 0 l.k)
