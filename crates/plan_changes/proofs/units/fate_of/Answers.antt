use Rattle.std.proofs.Common.{◌∙◌, sym, true, false}
use Rattle.plan_changes.specs.Units.{fate_of}
use Rattle.plan_changes.proofs.Fates.{fate_at-both}
use Rattle.plan_changes.proofs.units.fate_of.Goals as goal

pub returns-then-branch : goal.returns-then-branch
unfolding fate_of
returns-then-branch c =
    let before = rw c.instance.ensures.value at c.in-Some.ensures.value in
    let after = rw c.instance-2.ensures.value at c.in-Some-index_named.ensures.value in
    sym (fate_at-both c.args.old.now c.args.new.now _ _ _ _ true before after (sym c.if-branch.true ∙ c.in_ok-are_loaded_alike.ensures))

pub returns-else-branch : goal.returns-else-branch
unfolding fate_of
returns-else-branch c =
    let before = rw c.instance.ensures.value at c.in-Some.ensures.value in
    let after = rw c.instance-2.ensures.value at c.in-Some-index_named.ensures.value in
    sym (fate_at-both c.args.old.now c.args.new.now _ _ _ _ false before after (sym c.if-branch.false ∙ c.in_ok-are_loaded_alike.ensures))
