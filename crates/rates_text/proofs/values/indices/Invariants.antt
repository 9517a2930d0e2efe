use Rattle.std.proofs.Common.{◌≡◌, Ok, take}
use Rattle.toml.specs.View.{view}
use Rattle.rates_text.specs.Kinds.{index_of, each}
use Rattle.rates_text.specs.Index.{index_by}
use Rattle.rates_text.proofs.values.indices.Given as goal

abbrev pub invariant-loop-item : goal.invariant-loop-item
invariant-loop-item l =
    each (λ _ v. index_of l.place l.key (index_by l.names) (view v)) 0 (take l.item-index l.item-items) ≡ Ok l.indices.items
