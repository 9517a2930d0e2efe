use Rattle.std.proofs.Common.{◌≡◌, Ok, take}
use Rattle.toml.specs.View.{view}
use Rattle.instance_text.specs.Kinds.{number_of, each}
use Rattle.instance_text.proofs.values.numbers.Given as goal

abbrev pub invariant-loop-item : goal.invariant-loop-item
invariant-loop-item l =
    each (λ _ v. number_of l.place l.key (view v)) 0 (take l.item-index l.item-items) ≡ Ok l.numbers.items
