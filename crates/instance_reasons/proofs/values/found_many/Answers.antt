use Rattle.std.proofs.Common.{◌≡◌, Some, sym}
use Rattle.toml.specs.Data.{as_array}
use Rattle.toml.specs.View.{items_view, view}
use Rattle.instance_reasons.specs.declared.values.Found.TheVariants.{Whole}
use Rattle.instance_reasons.specs.Values.{first_wrong, found_in, kind_of}
use Rattle.instance_reasons.proofs.Items.{of_array}
use Rattle.instance_reasons.proofs.values.found_many.Goals as goal

pub returns-in-Some : goal.returns-in-Some
returns-in-Some c =
    let d = view c.args.value.now in
    let is : Some (items_view c.in-Some.items.now.items) ≡ as_array d = rw c.in-Some.is at c.as_array.ensures in
    rw (c.found_in.ensures, c.first_wrong.ensures, c.as_slice.ensures.value)
    (sym (of_array (as_array d) (Whole (kind_of d)) (λ ds. found_in (first_wrong c.args.kind ds)) c.in-Some.items.now.items is))
