use Rattle.std.proofs.Common.{◌∷◌, ap, arith, inl, inr, length, refl}
use Rattle.std.proofs.lemmas.Result.{on_ok_weaker}
use Rattle.tree_check.proofs.Turns.{walk_stays, walk_down, next_open}
use Rattle.tree_check.proofs.walk.Walk.go_on.Goals as goal

pub decide-requires-clause-of : goal.decide-requires-clause-of
decide-requires-clause-of c =
    let next = c.in-Some.ensures.down c.args.instance.now (c.requires.0 ∷ c.requires.1) c.requires.2 in
    next.choice

pub decide-requires-clause-is_open : goal.decide-requires-clause-is_open
decide-requires-clause-is_open c =
    let left = c.requires.0 ∷ c.requires.1 in
    next_open c.args.instance.now c.go_up.new.self c.in-Some.decision left (c.in-Some.ensures.down c.args.instance.now left c.requires.2)

pub returns-in-Some : goal.returns-in-Some
returns-in-Some c =
    let i = c.args.instance.now in
    on_ok_weaker c.decide.result
    (λ is d left walk. walk_down i c.go_up.new.self (record { choice = c.decide.new.self; turns = c.go_up.new.self.turns }) c.in-Some.decision d left
    (c.in-Some.ensures.down i (d ∷ left) walk) refl is)
    c.decide.ensures.ok

pub returns-in-None : goal.returns-in-None
returns-in-None c = λ d left walk.
    let i = c.args.instance.now in
    elim (c.in-None.ensures.stay i (d ∷ left) walk) [
      | inl next ↦ walk_stays i c.go_up.new.self d left next
      | inr ended ↦ absurd (omega (arith, ap length ended))
    ]
