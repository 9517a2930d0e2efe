use Rattle.std.proofs.Common.{◌≡◌, Ok, take, map}
use Rattle.toml.specs.View.{view, table_view}
use Rattle.rates_text.specs.Kinds.{table_of, each}
use Rattle.rates_text.proofs.values.tables.Given as goal

abbrev pub invariant-loop-item : goal.invariant-loop-item
invariant-loop-item l =
    each (λ _ v. table_of l.place l.key (view v)) 0 (take l.item-index l.item-items) ≡ Ok (map (λ t. table_view t.now) l.tables.items)
