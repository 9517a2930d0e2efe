use Rattle.std.proofs.Common.{take, get_or}
use Rattle.std.proofs.lemmas.List.{take_more}
use Rattle.used_decisions.specs.declared.turn.Placed.{Placed}
use Rattle.used_decisions.proofs.More.{marked_more}
use Rattle.used_decisions.proofs.children.insert_all.Goals as goal

pub loop-one-preserved : goal.loop-one-preserved
loop-one-preserved c =
    let xs = c.args.placed.now in
    let none : Placed = record { node = 0; level = 0 } in
    let one = get_or xs c.loop-one.one-index none in
    rw (take_more xs c.loop-one.one-index none c.loop-one-test.true)
    (marked_more (take c.loop-one.one-index xs) one c.args.levels.now c.loop-one.levels c.insert.new.self c.loop-one.invariant c.insert.ensures)
