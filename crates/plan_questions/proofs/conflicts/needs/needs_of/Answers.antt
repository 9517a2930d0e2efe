use Rattle.std.proofs.Common.{◌≡◌, ◌++◌, ◌∷◌, ◌<◌, [], length, rules}
use Rattle.std.proofs.lemmas.List.Elements.{All-push}
use Rattle.plan_questions.specs.declared.conflicts.needs.Need.{Need}
use Rattle.plan_questions.specs.Conflicts.{IsMarked}
use Rattle.plan_questions.proofs.Told.{one_more_told}
use Rattle.plan_questions.proofs.conflicts.needs.needs_of.Goals as goal

pub loop-constraint-preserved : goal.loop-constraint-preserved
loop-constraint-preserved c =
    let list = c.as_slice-constraint-items.result.now in
    let k = c.loop-constraint.constraint-index in
    let needs = c.loop-constraint.needs.items in
    let need : Need = c.need_of.result in
    let pushed : c.push.new.self.items ≡ needs ++ need ∷ [] = search rules in
    let inside : k < length list = search rules in
    rw pushed (record {
      told = one_more_told needs need list k need.constraint c.loop-constraint.invariant.told inside (search rules);
      marked = All-push (IsMarked c.args.needed.now) needs need c.loop-constraint.invariant.marked c.need_of.ensures.marked;
    })
