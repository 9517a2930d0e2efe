use Rattle.ttp_model.specs.Parts.{instance_of}
use Rattle.instance_reasons.proofs.Failing.{sends_away}
use Rattle.instance_reasons.proofs.joins.receiver_there.Goals as goal

pub first_on-k-requires : goal.first_on-k-requires
first_on-k-requires c =
    rw (c.receivers_of-receivers.ensures, c.node_of-node.ensures, c.sender_of-sender.ensures)
    (λ each. c.requires (sends_away (instance_of c.args.parts.now) c.args.m each))

pub returns : goal.returns
returns c = record {
  message_is = c.message_name.ensures;
  sender_is = rw c.sender_of-sender.ensures at c.process_name.ensures;
  node_is = rw c.sender_of-sender.ensures at c.place_name.ensures;
  place = c.first_on-k.result;
  first = rw (c.receivers_of-receivers.ensures, c.node_of-node.ensures, c.sender_of-sender.ensures) at c.first_on-k.ensures;
  receiver_is = rw c.receivers_of-receivers.ensures at c.process_name-2.ensures;
}
