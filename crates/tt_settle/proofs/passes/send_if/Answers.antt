use Rattle.std.proofs.Common.{◌≡◌, refl, ap, ◌∙◌}
use Rattle.ttp_model.specs.declared.parts.Message.{Message}
use Rattle.ttp_model.specs.Instance.{message_at}
use Rattle.tt_settle.specs.Settling.{RestsInRound}
use Rattle.tt_settle.proofs.Trying.{tried_as, tried_none}
use Rattle.tt_settle.proofs.passes.send_if.Goals as goal

pub returns-then-message_at-p : goal.returns-then-message_at-p
returns-then-message_at-p c = tried_as c.args.instance.now c.args.plan (λ q. RestsInRound c.args.instance.now q c.args.m) (λ q. (message_at c.args.instance.now c.args.m).sender ≡ c.args.p → RestsInRound c.args.instance.now q c.args.m) c.send_one.result.0 c.send_one.result.1 (λ rests _. rests) c.send_one.ensures

pub returns-else-message_at-p : goal.returns-else-message_at-p
returns-else-message_at-p c = tried_none c.args.instance.now c.args.plan (λ q. (message_at c.args.instance.now c.args.m).sender ≡ c.args.p → RestsInRound c.args.instance.now q c.args.m) c.args.plan refl (λ is. absurd (c.if-message_at-p.false (ap (λ (k : Message). k.sender) c.message_at.ensures.value ∙ is)))
