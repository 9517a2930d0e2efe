use Rattle.std.proofs.Common.{◌≡◌, ℕ, ◌-◌, ◌/◌, List, ◌++◌, length, take, drop, arith, length-drop, refl, ◌∙◌}
use Rattle.instance_variants.specs.declared.kept.constraints.Constraint.{Constraint}
use Rattle.plan_questions.specs.declared.conflicts.conflict.Conflict.{Conflict}
use Rattle.plan_questions.specs.Leaving.{AreLeftOut}
use Rattle.plan_questions.proofs.Narrowed.{in_two}
use Rattle.plan_questions.proofs.Decided.{left_turned, same_but_stride, shorter_to_do, turned_closer, unless_left}
use Rattle.plan_questions.proofs.conflicts.leaving.shorten.Goals as goal

pub returns-in-NoPlan-clause-narrowing : goal.returns-in-NoPlan-clause-narrowing
returns-in-NoPlan-clause-narrowing g c =
    let i = c.args.instance.now in
    let options = c.args.asking.now.options in
    let old : Conflict = c.args.conflict.now in
    let left : Conflict = c.leave_out.new.conflict in
    let part : List Constraint = c.as_slice-2.result.now in
    let front : List Constraint = c.truncate.new.self.items in
    let n : ℕ = length old.pending.items - c.args.count in
    let is : AreLeftOut i options old part left = rw c.in-NoPlan.is at c.in_ok-leave_out.ensures in
    let is_part : part ≡ drop n old.pending.items = c.as_slice-2.ensures.value ∙ (rw c.as_slice.ensures.value at c.in_ok-part.ensures) in
    let many : c.len.result - c.args.count ≡ n = omega (arith, c.len.ensures) in
    let is_front : front ≡ take n old.pending.items = rw (is.pending, many) at c.truncate.ensures.items in
    let was : old.pending.items ≡ front ++ part = in_two old.pending.items front part n is_front is_part in
    left_turned i options c.nodes-nodes.ensures.instance old old left c.turn.new.conflict c.requires.narrowing front part was c.turn.ensures.pending is
    refl refl c.turn.ensures.kept c.turn.ensures.cert c.turn.ensures.needed

pub returns-in-NoPlan-clause-closer : goal.returns-in-NoPlan-clause-closer
returns-in-NoPlan-clause-closer g c =
    let old : Conflict = c.args.conflict.now in
    let left : Conflict = c.leave_out.new.conflict in
    let part : List Constraint = c.as_slice-2.result.now in
    let front : List Constraint = c.truncate.new.self.items in
    let n : ℕ = length old.pending.items - c.args.count in
    let is : AreLeftOut c.args.instance.now c.args.asking.now.options old part left = rw c.in-NoPlan.is at c.in_ok-leave_out.ensures in
    let is_part : part ≡ drop n old.pending.items = c.as_slice-2.ensures.value ∙ (rw c.as_slice.ensures.value at c.in_ok-part.ensures) in
    let many : c.len.result - c.args.count ≡ n = omega (arith, c.len.ensures) in
    let is_front : front ≡ take n old.pending.items = rw (is.pending, many) at c.truncate.ensures.items in
    let was : old.pending.items ≡ front ++ part = in_two old.pending.items front part n is_front is_part in
    let some : length part ≡ length (drop n old.pending.items) = rw is_part refl in
    turned_closer old c.turn.new.conflict front part was c.turn.ensures.pending
    (omega (arith, some, length-drop n old.pending.items, c.requires.some, c.requires.pending))

pub returns-clause-narrowing : goal.returns-clause-narrowing
returns-clause-narrowing g c =
    let i = c.args.instance.now in
    let options = c.args.asking.now.options in
    let old : Conflict = c.args.conflict.now in
    let left : Conflict = c.leave_out.new.conflict in
    let new : Conflict = record left { stride = c.args.count / 2 } in
    let same : left ≡ old = unless_left i options old left c.as_slice-2.result.now c.in_ok-leave_out.field-0 c.in_ok-leave_out.ensures c.in-SomePlan.is in
    same_but_stride i options old left new c.requires.narrowing same refl refl refl refl

pub returns-clause-needed : goal.returns-clause-needed
returns-clause-needed g c =
    let old : Conflict = c.args.conflict.now in
    let left : Conflict = c.leave_out.new.conflict in
    let same : left ≡ old =
    unless_left c.args.instance.now c.args.asking.now.options old left c.as_slice-2.result.now c.in_ok-leave_out.field-0 c.in_ok-leave_out.ensures c.in-SomePlan.is in
    let needed : left.needed ≡ old.needed = rw same refl in
    needed

pub returns-clause-closer : goal.returns-clause-closer
returns-clause-closer g c =
    let old : Conflict = c.args.conflict.now in
    let left : Conflict = c.leave_out.new.conflict in
    let new : Conflict = record left { stride = c.args.count / 2 } in
    let same : left ≡ old =
    unless_left c.args.instance.now c.args.asking.now.options old left c.as_slice-2.result.now c.in_ok-leave_out.field-0 c.in_ok-leave_out.ensures c.in-SomePlan.is in
    let pending : new.pending ≡ old.pending = rw same refl in
    shorter_to_do old new pending (omega (arith, c.requires.stride, c.requires.some)) (omega (arith, c.ranges.count.fits))
