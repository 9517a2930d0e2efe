use Rattle.std.proofs.Common.{◌≡◌, ◌*◌, ◌≤◌, ◌++◌, filter, map}
use Rattle.std.specs.List.{range_with_len}
use Rattle.ttp_model.specs.declared.limits.TheConstants.{MOST_BYTES}
use Rattle.ttp_model.specs.Plans.{bytes_on}
use Rattle.ttp_model.specs.Totals.{total}
use Rattle.medl_tables.specs.Rows.{entry_of, is_entry}
use Rattle.medl_tables.proofs.rows.push_entries_on.Given as goal

abbrev pub invariant-loop-m : goal.invariant-loop-m
invariant-loop-m l = record {
  entries : l.entries.items ≡ l.initial.entries.items
      ++ filter (λ e. is_entry l.instance l.plan l.node l.n l.r l.channel e.message)
      (map (entry_of l.instance l.plan l.n l.r l.channel) (range_with_len 0 l.m));
  offset : l.offset ≡ total (bytes_on l.instance l.plan l.n l.r l.channel) l.m;
  bound : l.offset ≤ l.m * MOST_BYTES;
}
