use Rattle.std.proofs.Common.{◌≡◌, map}
use Rattle.std.specs.List.{range_with_len}
use Rattle.medl_tables.specs.Rows.{rows_of}
use Rattle.medl_tables.proofs.medl.Medl.of.Given as goal

abbrev pub invariant-loop-node : goal.invariant-loop-node
invariant-loop-node l = l.tables.items ≡ map (rows_of l.instance l.plan) (range_with_len 0 l.node)
