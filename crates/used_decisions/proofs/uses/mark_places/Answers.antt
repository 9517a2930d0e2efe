use Rattle.std.proofs.Common.{ℕ, ◌≡◌, List, take, get_or, subst, ap, ◌∙◌}
use Rattle.std.proofs.lemmas.List.{take_all, take_more}
use Rattle.used_decisions.specs.declared.turn.Placed.{Placed}
use Rattle.used_decisions.specs.Turns.{placed_of}
use Rattle.used_decisions.specs.Uses.{HaveMarked}
use Rattle.used_decisions.proofs.More.{marked_none, marked_more, take_least}
use Rattle.used_decisions.proofs.uses.mark_places.Goals as goal

pub loop-placed-init : goal.loop-placed-init
loop-placed-init c = marked_none c.args.levels.now

pub loop-placed-preserved : goal.loop-placed-preserved
loop-placed-preserved c =
    let xs = take c.min-count.result c.order-order.result.now in
    let none : Placed = record { node = 0; level = 0 } in
    let one = get_or xs c.loop-placed.placed-index none in
    let more = take_more xs c.loop-placed.placed-index none c.loop-placed-test.true in
    rw more (marked_more (take c.loop-placed.placed-index xs) one c.args.levels.now c.loop-placed.levels c.insert.new.self c.loop-placed.invariant
    c.insert.ensures)

pub returns : goal.returns
returns c =
    let order = c.order-order.result.now in
    let xs = take c.min-count.result order in
    let whole : take c.loop-placed.placed-index xs ≡ xs = take_all c.loop-placed.placed-index xs c.loop-placed-test.false in
    let is : xs ≡ take c.args.places order = ap (λ (k : ℕ). take k order) c.min-count.ensures ∙ take_least order c.args.places in
    let last : xs ≡ take c.args.places (placed_of c.args.path.now.turns) = is ∙ ap (λ (ys : List Placed). take c.args.places ys) c.order-order.ensures in
    subst (λ (ys : List Placed). HaveMarked ys c.args.levels.now c.loop-placed.levels) (whole ∙ last) c.loop-placed.invariant
