use Rattle.std.proofs.Common.{◌≡◌, Some, sym}
use Rattle.toml.specs.Data.{as_array}
use Rattle.toml.specs.View.{items_view, view}
use Rattle.instance_reasons.specs.Known.{has}
use Rattle.instance_reasons.specs.Unknown.{earliest_unknown, unknown_item}
use Rattle.instance_reasons.proofs.Items.{of_array}
use Rattle.instance_reasons.proofs.known.unknown_name.Goals as goal

pub returns-in-Some : goal.returns-in-Some
returns-in-Some c =
    let d = view c.args.value.now in
    let known = has c.args.known.now in
    let is : Some (items_view c.in-Some.items.now.items) ≡ as_array d = rw c.in-Some.is at c.as_array.ensures in
    rw (c.earliest_unknown.ensures, c.as_slice.ensures.value)
    (sym (of_array (as_array d) (unknown_item known d) (earliest_unknown known) c.in-Some.items.now.items is))
