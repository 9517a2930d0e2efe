use Rattle.std.proofs.Common.{◌∙◌, ◌++◌, ◌∷◌, [], length, sym, ap}
use Rattle.std.proofs.lemmas.Bool.{eqb-false, eqb-true}
use Rattle.ttp_model.specs.declared.parts.Message.{Message}
use Rattle.endless_schedules.proofs.Pieces.{sent_none, sent_some}
use Rattle.endless_schedules.proofs.messages.push_message.Goals as goal

pub returns-in_ok-push : goal.returns-in_ok-push
returns-in_ok-push c =
    c.in_ok-push.ensures.items
    ∙ ap (λ (made : Message). c.args.list.now.items ++ made ∷ []) c.in_ok-job_message.ensures
    ∙ sent_some c.args.rates.now _ c.args.m c.args.k
    (λ none. eqb-false (length c.in_ok-receivers.receivers) 0 (sym c.is_empty.ensures ∙ c.if-not-is_empty.true) (ap length c.in_ok-receivers.ensures ∙ none))

pub returns-else-not-is_empty : goal.returns-else-not-is_empty
returns-else-not-is_empty c =
    sent_none c.args.rates.now _ c.args.m c.args.k
    (ap length (sym c.in_ok-receivers.ensures) ∙ eqb-true (length c.in_ok-receivers.receivers) 0 (sym c.is_empty.ensures ∙ c.if-not-is_empty.false))
