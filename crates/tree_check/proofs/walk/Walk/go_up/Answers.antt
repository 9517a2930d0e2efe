use Rattle.std.proofs.Common.{arith, inl, inr, refl}
use Rattle.std.proofs.lemmas.List.{nil_from_length}
use Rattle.tree_check.specs.declared.walk.Turn.TheVariants as turn
use Rattle.tree_check.proofs.Turns.{turn_next, above_of, some_kept, none_left}
use Rattle.tree_check.proofs.walk.Walk.go_up.Goals as goal

pub undo-requires : goal.undo-requires
undo-requires c =
    let walk = c.turns.invariant c.requires.0 c.requires.1 c.requires.2 in
    let next = turn_next c.requires.0 c.turns.self (record { choice = c.turns.self.choice; turns = c.pop.new.self }) turn.Up c.requires.1
    (rw c.in-Up.is at c.in-Some.ensures.items) refl walk in
    let above = above_of c.requires.0 (record { choice = c.turns.self.choice; turns = c.pop.new.self }) c.requires.1 next in
    some_kept c.requires.0 above.0 c.turns.self.choice above.1

pub returns-in-Down-clause-down : goal.returns-in-Down-clause-down
returns-in-Down-clause-down c = λ i left walk.
    turn_next i c.turns.self (record { choice = c.turns.self.choice; turns = c.pop.new.self }) (turn.Down c.in-Down.decision) left
    (rw c.in-Down.is at c.in-Some.ensures.items) refl (c.turns.invariant i left walk)

pub returns-in-Stay-clause-stay : goal.returns-in-Stay-clause-stay
returns-in-Stay-clause-stay c = λ i left walk.
    inl (turn_next i c.turns.self (record { choice = c.turns.self.choice; turns = c.pop.new.self }) turn.Stay left
    (rw c.in-Stay.is at c.in-Some.ensures.items) refl (c.turns.invariant i left walk))

pub returns-clause-stay : goal.returns-clause-stay
returns-clause-stay c = λ i left walk.
    inr (none_left i c.turns.self left (nil_from_length c.turns.self.turns.items
    (omega (arith, c.in_default.ensures.cases.0, c.turns.self.turns.ok))) (c.turns.invariant i left walk))
