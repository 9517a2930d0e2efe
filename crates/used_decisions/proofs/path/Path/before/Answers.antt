use Rattle.std.proofs.Common.{◌∙◌, ap, length, Bool}
use Rattle.tt_choice.specs.declared.decision.Decision.{Decision}
use Rattle.used_decisions.specs.Turns.{last_of, level_of}
use Rattle.used_decisions.specs.Tables.{turns_of}
use Rattle.used_decisions.proofs.LastTurns.{order_inside, place_parts}
use Rattle.used_decisions.proofs.path.Path.before.Goals as goal

pub returns : goal.returns
returns c = rw (← c.self.view_is) (λ first second.
    let n = length c.self.inside.instance.now.processes in
    let there = order_inside n c.args.p c.args.q first second in
    rw (c.as_slice.ensures.value, c.order_place.ensures) at c.item_at.ensures
    ∙ (c.self.invariant.tables.ordered.told _ there
    ∙ ap (λ (picks : Decision → Bool). level_of (last_of picks (turns_of c.self.inside.taken.items))) (place_parts n c.args.p c.args.q there).2))
