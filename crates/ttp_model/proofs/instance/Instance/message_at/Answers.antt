use Rattle.std.proofs.Common.{◌≡◌, arith}
use Rattle.std.proofs.lemmas.Grind.{common_steps}
use Rattle.ttp_model.specs.Instance.{message_at}
use Rattle.ttp_model.proofs.Elements.{sender_inside, receivers_inside, bytes_inside}
use Rattle.ttp_model.proofs.instance.Instance.message_at.Goals as goal

pub returns-clause-sender : goal.returns-clause-sender
returns-clause-sender c =
    let is : c.index-messages-m.result ≡ message_at c.args.self.now c.args.m = grind (arith, common_steps) in
    sender_inside _ c.messages.ensures.instance c.args.m c.index-messages-m.result c.requires is

pub returns-clause-receivers : goal.returns-clause-receivers
returns-clause-receivers c =
    let is : c.index-messages-m.result ≡ message_at c.args.self.now c.args.m = grind (arith, common_steps) in
    receivers_inside _ c.messages.ensures.instance c.args.m c.index-messages-m.result c.requires is

pub returns-clause-bytes : goal.returns-clause-bytes
returns-clause-bytes c =
    let is : c.index-messages-m.result ≡ message_at c.args.self.now c.args.m = grind (arith, common_steps) in
    bytes_inside _ c.messages.ensures.instance c.args.m c.index-messages-m.result c.requires is
