use Rattle.std.proofs.Common.{◌≡◌, ◌++◌}
use Rattle.std.specs.List.{flat_map, range_with_len}
use Rattle.medl_tables.specs.Text.{text_at}
use Rattle.plan_cycles.specs.Rounds.{tables_in}
use Rattle.plan_cycles.proofs.longer.tables.tables_text.Given as goal

abbrev pub invariant-loop-node : goal.invariant-loop-node
invariant-loop-node l = l.text.items ≡ l.initial.text.items ++ flat_map (text_at l.instance (tables_in l.rounds l.instance l.plan)) (range_with_len 0 l.node)
