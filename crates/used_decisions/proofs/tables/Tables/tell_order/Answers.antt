use Rattle.std.proofs.Common.{◌∙◌, ap, length}
use Rattle.tt_choice.specs.declared.decision.Decision.{Decision}
use Rattle.std.proofs.Common.{Bool}
use Rattle.used_decisions.specs.Turns.{last_of, level_of}
use Rattle.used_decisions.proofs.LastTurns.{order_inside, place_parts}
use Rattle.used_decisions.proofs.Told.{order_told}
use Rattle.used_decisions.proofs.tables.Tables.tell_order.Goals as goal

pub returns : goal.returns
returns c = λ turns are.
    let i = c.args.instance.now in
    let t = c.args.self.now in
    let n = length i.processes in record {
      tables = rw (c.put_at.ensures, c.order_place-place.ensures) (order_told i turns t.order.items t.above_least.items t.below_most.items t.before.items t.least.items t.greatest.items t.channels.items c.args.p c.args.q c.args.level are);
      stood_so = λ first second.
          let there = order_inside n c.args.p c.args.q first second in
          c.branch-stood.ensures
          ∙ (rw (c.as_slice.ensures.value, c.order_place-place.ensures) at c.item_at-stood.ensures
          ∙ (are.ordered.told _ there ∙ ap (λ (picks : Decision → Bool). level_of (last_of picks turns)) (place_parts n c.args.p c.args.q there).2));
    }
