use Rattle.std.proofs.Common.{◌≡◌, string_bytes}
use Rattle.std.specs.List.{list_all}
use Rattle.toml.specs.View.{table_view}
use Rattle.rates_text.specs.Tables.{keys_at, has_key, has_only}
use Rattle.rates_text.proofs.keys.judge.Given as goal

abbrev pub invariant-loop-text : goal.invariant-loop-text
invariant-loop-text l =
    has_only (keys_at l.place) (table_view l.table) ≡ list_all (λ k. has_key (keys_at l.place) (string_bytes k)) l.text-iterator
