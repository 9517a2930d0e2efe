use Rattle.std.proofs.Common.{◌≡◌, List, [], Some, sym}
use Rattle.toml.specs.Data.{Data, as_array}
use Rattle.toml.specs.View.{items_view, view}
use Rattle.instance_reasons.proofs.Items.{of_array}
use Rattle.instance_reasons.proofs.tables.items_of.Goals as goal

pub returns-in-Some : goal.returns-in-Some
returns-in-Some c =
    let d = view c.args.value.now in
    let is : Some (items_view c.in-Some.items.now.items) ≡ as_array d = rw c.in-Some.is at c.as_array.ensures in
    rw c.as_slice.ensures.value (sym (of_array (as_array d) [] (λ (ds : List Data). ds) c.in-Some.items.now.items is))
