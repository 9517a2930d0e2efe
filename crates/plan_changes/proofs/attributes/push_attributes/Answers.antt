use Rattle.std.proofs.Common.{ℕ, List, ◌++◌, ap}
use Rattle.plan_changes.specs.Attributes.{attribute_difference, attribute_word}
use Rattle.plan_changes.proofs.EitherNames.{flat_map-read}
use Rattle.plan_changes.proofs.attributes.push_attributes.Goals as goal

pub returns : goal.returns
returns c =
    let attribute = c.args.attribute in
    let tells = λ (name : List ℕ).
    attribute_difference attribute name (attribute_word attribute c.args.old.now name) (attribute_word attribute c.args.new.now name) in
    let names = rw (c.instance.ensures.value, c.instance-2.ensures.value) at c.in_ok-names.ensures in
    rw (c.in_ok-push_named.ensures, c.as_slice.ensures.value) (ap (λ (told : List ℕ). c.args.text.now.items ++ told) (flat_map-read tells _ _ names))
