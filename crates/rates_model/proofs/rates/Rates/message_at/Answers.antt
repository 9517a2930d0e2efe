use Rattle.std.proofs.Common.{◌≡◌, arith}
use Rattle.std.proofs.lemmas.Grind.{common_steps}
use Rattle.rates_model.specs.Rates.{message_at}
use Rattle.rates_model.proofs.Elements.{sender_inside, receivers_inside}
use Rattle.rates_model.proofs.rates.Rates.message_at.Goals as goal

pub returns-clause-sender : goal.returns-clause-sender
returns-clause-sender c =
    let is : c.index-messages-m.result ≡ message_at c.args.self.now c.args.m = grind (arith, common_steps) in
    sender_inside _ c.messages.ensures.keeps c.args.m c.index-messages-m.result c.requires is

pub returns-clause-receivers : goal.returns-clause-receivers
returns-clause-receivers c =
    let is : c.index-messages-m.result ≡ message_at c.args.self.now c.args.m = grind (arith, common_steps) in
    receivers_inside _ c.messages.ensures.keeps c.args.m c.index-messages-m.result c.requires is
