use Rattle.std.proofs.Common.{◌≡◌, drop, map}
use Rattle.toml.specs.View.{view}
use Rattle.instance_reasons.specs.Values.{first_wrong}
use Rattle.instance_reasons.proofs.values.first_wrong.Given as goal

abbrev pub invariant-loop-item : goal.invariant-loop-item
invariant-loop-item l = first_wrong l.kind (map view l.items) ≡ first_wrong l.kind (map view (drop l.item-index l.items))
