use Rattle.std.proofs.Common.{◌≡◌, List, [], ◌∷◌, arith, refl}
use Rattle.std.specs.List.Sorted.{IsPermutation}
use Rattle.instance_variants.specs.declared.kept.constraints.Constraint.{Constraint}
use Rattle.instance_variants.specs.Constraints.{without_all}
use Rattle.instance_variants.specs.Only.{only}
use Rattle.instance_variants.specs.Fewer.{HasPlan}
use Rattle.plan_questions.specs.declared.conflicts.conflict.Conflict.{Conflict}
use Rattle.plan_questions.specs.Searches.{WasStopped}
use Rattle.plan_questions.specs.Leaving.{AreLeftOut}
use Rattle.plan_questions.proofs.Decided.{left_turned, needed_narrowing, open_narrowing, turned_closer}
use Rattle.plan_questions.proofs.conflicts.leaving.decide.Goals as goal

pub returns-in_ok-turn-in-NoPlan-clause-narrowing : goal.returns-in_ok-turn-in-NoPlan-clause-narrowing
returns-in_ok-turn-in-NoPlan-clause-narrowing g c =
    let i = c.args.instance.now in
    let options = c.args.asking.now.options in
    let old : Conflict = c.args.conflict.now in
    let at : Conflict = record old { pending = c.pop.new.self } in
    let left : Conflict = c.leave_out.new.conflict in
    let new : Conflict = c.turn.new.conflict in
    let part : List Constraint = c.in-Some.constraint ∷ [] in
    let is : AreLeftOut i options at part left = rw c.in-NoPlan.is at c.in_ok-leave_out.ensures in
    let same : left.pending.items ≡ at.pending.items = rw is.pending refl in
    let turned : IsPermutation at.pending.items new.pending.items = rw same at c.turn.ensures.pending in
    left_turned i options c.nodes-nodes.ensures.instance old at left new c.requires.narrowing at.pending.items part c.in-Some.ensures.items turned is
    refl refl c.turn.ensures.kept c.turn.ensures.cert c.turn.ensures.needed

pub returns-in_ok-turn-in-NoPlan-clause-closer : goal.returns-in_ok-turn-in-NoPlan-clause-closer
returns-in_ok-turn-in-NoPlan-clause-closer g c =
    let old : Conflict = c.args.conflict.now in
    let at : Conflict = record old { pending = c.pop.new.self } in
    let left : Conflict = c.leave_out.new.conflict in
    let new : Conflict = c.turn.new.conflict in
    let part : List Constraint = c.in-Some.constraint ∷ [] in
    let is : AreLeftOut c.args.instance.now c.args.asking.now.options at part left = rw c.in-NoPlan.is at c.in_ok-leave_out.ensures in
    let same : left.pending.items ≡ at.pending.items = rw is.pending refl in
    let turned : IsPermutation at.pending.items new.pending.items = rw same at c.turn.ensures.pending in
    turned_closer old new at.pending.items part c.in-Some.ensures.items turned (omega arith)

pub returns-in_ok-note-in-SomePlan-clause-narrowing : goal.returns-in_ok-note-in-SomePlan-clause-narrowing
returns-in_ok-note-in-SomePlan-clause-narrowing g c =
    let i = c.args.instance.now in
    let options = c.args.asking.now.options in
    let old : Conflict = c.args.conflict.now in
    let at : Conflict = record old { pending = c.pop.new.self } in
    let left : Conflict = c.leave_out.new.conflict in
    let last = c.in-Some.constraint in
    let is : (left ≡ at) × HasPlan (only i (without_all at.kept (last ∷ []))) = rw c.in-SomePlan.is at c.in_ok-leave_out.ensures in
    needed_narrowing i options c.nodes-nodes.ensures.instance old at left c.requires.narrowing last c.in-Some.ensures.items refl refl refl is.0
    c.note.new.conflict is.1 c.in_ok-note-in-SomePlan.field-0 c.in_ok-note-in-SomePlan.ensures

pub returns-in-Unknown-clause-narrowing : goal.returns-in-Unknown-clause-narrowing
returns-in-Unknown-clause-narrowing g c =
    let i = c.args.instance.now in
    let options = c.args.asking.now.options in
    let old : Conflict = c.args.conflict.now in
    let at : Conflict = record old { pending = c.pop.new.self } in
    let left : Conflict = c.leave_out.new.conflict in
    let last = c.in-Some.constraint in
    let is : (left ≡ at) × WasStopped (only i (without_all at.kept (last ∷ []))) options = rw c.in-Unknown.is at c.in_ok-leave_out.ensures in
    open_narrowing i options c.nodes-nodes.ensures.instance old at left c.requires.narrowing last c.in-Some.ensures.items refl refl refl is.0 is.1
