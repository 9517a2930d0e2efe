use Rattle.std.proofs.Common.{ℕ, List, length, nat_lt, subst, sym, arith}
use Rattle.std.specs.List.{IsFirstBest}
use Rattle.ttp_model.specs.Parts.{instance_of}
use Rattle.ttp_model.specs.Turns.{AreStuck}
use Rattle.ttp_model.proofs.ClosedWalks.{IsAcyclic_from, IsCycle_told}
use Rattle.ttp_model.proofs.graph.cycle.Goals as goal

pub returns-in-None : goal.returns-in-None
returns-in-None c =
    let none = rw c.as_slice.ensures.value at c.in-None.ensures.none in
    let turns = c.in_ok-turns.ensures in
    IsAcyclic_from _ _ c.requires.indices turns.turns (λ p h. none p (omega (arith, turns.length)))

pub walk_from-requires-clause-stuck : goal.walk_from-requires-clause-stuck
walk_from-requires-clause-stuck c = subst (λ turns. AreStuck (instance_of c.args.parts.now) turns) (sym c.as_slice-in-Some.ensures.value) c.in_ok-turns.ensures.stuck

pub returns : goal.returns
returns c =
    let walk = c.in_ok-walk-in-Some.ensures in
    let best = subst (λ (xs : List ℕ). IsFirstBest nat_lt xs (length xs) c.least_place-place.result) c.as_slice-in-Some-2.ensures.value c.least_place-place.ensures in
    let told = rw c.as_slice-in-Some-3.ensures.value at c.in_ok-told-in-Some.ensures in
    rw (c.new.ensures, told) (IsCycle_told _ _ best.0 _ walk.walk walk.once best)
