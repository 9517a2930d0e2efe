use Rattle.std.proofs.Common.{rules, ◌≡◌, ◌<◌, length, refl, [], subst, sym, ◌∙◌}
use mathlib.Core.Option.{some-injective}
use Rattle.crossbeam_deque.proofs.Lists.{at_index}
use Rattle.steal_pool.specs.declared.hand.Hand.{Hand}
use Rattle.steal_pool.proofs.Pools.{changed}
use Rattle.steal_pool.proofs.hands.last_at.Goals as goal

pub returns-in-Some-clause-some : goal.returns-in-Some-clause-some
returns-in-Some-clause-some g c =
    let small : c.args.place < length c.args.hands.now.items = search rules in
    changed _ _ _ _ _ small c.index_mut-hand.ensures.value
    (record { number = refl; own = refl; out = refl; pushed = refl; own_taken = refl; doors = search rules })

pub returns-in-None-clause-none : goal.returns-in-None-clause-none
returns-in-None-clause-none g c = λ g e.
    let small : c.args.place < length c.args.hands.now.items = search rules in
    let empty : c.index_mut-hand.result.now.doors.items ≡ [] = search rules in
    subst (λ (x : Hand _). x.doors.items ≡ []) (some-injective _ _ (sym (at_index _ _ _ small c.index_mut-hand.ensures.value) ∙ e)) empty
