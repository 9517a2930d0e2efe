use Rattle.std.proofs.Common.{◌≡◌, ◌++◌, take}
use Rattle.std.specs.List.{flat_map}
use Rattle.plan_changes.specs.Attributes.{attribute_difference, attribute_word}
use Rattle.plan_changes.proofs.attributes.push_named.Given as goal

abbrev pub invariant-loop-name : goal.invariant-loop-name
invariant-loop-name l =
    l.text.items ≡ l.initial.text.items
    ++ flat_map (λ n. attribute_difference l.attribute n.now (attribute_word l.attribute l.old n.now) (attribute_word l.attribute l.new n.now))
    (take l.name-index l.names)
