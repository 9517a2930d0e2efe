use Rattle.std.proofs.Common.{ℕ, List, ◌≡◌, ◌++◌, ap}
use Rattle.plan_changes.specs.declared.fate.Fate.TheVariants.{Same}
use Rattle.plan_changes.specs.Units.{fate_line, fate_of}
use Rattle.plan_changes.proofs.EitherNames.{all_so-read, flat_map-read}
use Rattle.plan_changes.proofs.units.push_units.Goals as goal

pub returns-clause-text : goal.returns-clause-text
returns-clause-text c =
    let tells = λ (name : List ℕ). fate_line (fate_of c.args.old.now c.args.new.now name) name in
    let names = rw (c.instance.ensures.value, c.instance-2.ensures.value) at c.in_ok-names.ensures in
    rw (c.in_ok-same.ensures.text, c.as_slice.ensures.value) (ap (λ (told : List ℕ). c.args.text.now.items ++ told) (flat_map-read tells _ _ names))

pub returns-clause-same : goal.returns-clause-same
returns-clause-same c =
    let is_same : List ℕ → Type 0 = λ name. fate_of c.args.old.now c.args.new.now name ≡ Same in
    let names = rw (c.instance.ensures.value, c.instance-2.ensures.value) at c.in_ok-names.ensures in
    all_so-read is_same _ _ _ names (rw c.as_slice.ensures.value at c.in_ok-same.ensures.same)
