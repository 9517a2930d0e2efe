use Rattle.std.proofs.Common.{◌≡◌}
use Rattle.std.specs.List.{flat_map, range_with_len}
use Rattle.medl_tables.specs.Rows.{entries_on}
use Rattle.medl_tables.proofs.rows.entries_of.Given as goal

abbrev pub invariant-loop-channel : goal.invariant-loop-channel
invariant-loop-channel l = l.entries.items ≡ flat_map (entries_on l.instance l.plan l.node l.n l.r) (range_with_len 0 l.channel)
