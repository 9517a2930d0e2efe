use Rattle.std.proofs.Common.{◌≡◌, drop, map, option_map}
use Rattle.std.specs.List.{fold}
use Rattle.toml.specs.View.{view}
use Rattle.instance_reasons.specs.Known.{has}
use Rattle.instance_reasons.specs.Unknown.{earliest_unknown}
use Rattle.instance_reasons.proofs.Items.{step}
use Rattle.instance_reasons.proofs.known.earliest_unknown.Given as goal

abbrev pub invariant-loop-item : goal.invariant-loop-item
invariant-loop-item l =
    earliest_unknown (has l.known) (map view l.items)
    ≡ fold (step (has l.known)) (option_map (λ s. s.now) l.found) (map view (drop l.item-index l.items))
