use Rattle.std.proofs.Common.{ℕ, List, ◌++◌, ap}
use Rattle.plan_changes.specs.Figures.{difference_text, figure_for}
use Rattle.plan_changes.proofs.EitherNames.{flat_map-read}
use Rattle.plan_changes.proofs.figures.push_differences.Goals as goal

pub returns : goal.returns
returns c =
    let column = c.args.column in
    let tells = λ (name : List ℕ). difference_text column name (figure_for column c.args.old.now name) (figure_for column c.args.new.now name) in
    let names = rw (c.instance.ensures.value, c.instance-2.ensures.value, c.part_of.ensures) at c.in_ok-names.ensures in
    rw (c.in_ok-push_named.ensures, c.as_slice.ensures.value) (ap (λ (told : List ℕ). c.args.text.now.items ++ told) (flat_map-read tells _ _ names))
