use Rattle.std.proofs.Common.{List, ◌++◌, ◌∷◌, [], ap, sym, ◌∙◌}
use Rattle.tt_choice.specs.declared.decision.Decision.{Decision}
use Rattle.used_decisions.proofs.Ways.{decisions_first}
use Rattle.used_decisions.proofs.way.copied.Goals as goal

pub loop-one-preserved : goal.loop-one-preserved
loop-one-preserved c =
    let one = c.one-item.result in
    c.in_ok-push.ensures.items
    ∙ (ap (λ (ds : List Decision). ds ++ one.decision ∷ []) c.loop-one.invariant
    ∙ sym (decisions_first c.args.taken.now c.loop-one.one-index one c.loop-one-test.true c.one-item.is))
