use Rattle.std.proofs.Common.{◌≡◌}
use Rattle.std.proofs.lemmas.List.{get_or_read}
use Rattle.ttp_model.specs.Instance.{message_at, no_message}
use Rattle.ttp_model.specs.Parts.{instance_of}
use Rattle.instance_reasons.proofs.circles.message_leads.Goals as goal

pub returns-then-message-p : goal.returns-then-message-p
returns-then-message-p c =
    let here : c.index-message.result.now ≡ message_at (instance_of c.args.parts.now) c.args.m =
    get_or_read c.args.parts.now.messages.items c.args.m c.index-message.result.now c.requires c.index-message.ensures no_message in (
      λ contains. (rw here at c.if-message-p.true, rw here at (c.contains.ensures.0 contains)),
      λ leads. c.contains.ensures.1 (rw here leads.1),
    )
