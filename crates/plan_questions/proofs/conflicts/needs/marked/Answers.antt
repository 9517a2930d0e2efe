use Rattle.std.proofs.Common.{All, List, subst}
use Rattle.instance_variants.specs.declared.kept.constraints.Constraint.{Constraint}
use Rattle.plan_questions.specs.Conflicts.{IsMarked}
use Rattle.plan_questions.proofs.Told.{needs_marked}
use Rattle.plan_questions.proofs.conflicts.needs.marked.Goals as goal

pub returns : goal.returns
returns c = λ i options narrowing none.
    let needs = c.in_ok-needs.needs.items in
    let marked = subst (λ (needed : List Constraint). All (IsMarked needed) needs) c.as_slice.ensures.value c.in_ok-needs.ensures.marked in
    needs_marked i options c.args.conflict.now needs narrowing none c.in_ok-needs.ensures.all marked
