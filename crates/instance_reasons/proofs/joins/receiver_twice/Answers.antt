use Rattle.ttp_model.specs.Parts.{instance_of}
use Rattle.instance_reasons.proofs.Failing.{receives_once}
use Rattle.instance_reasons.proofs.joins.receiver_twice.Goals as goal

pub first_repeat-k-requires : goal.first_repeat-k-requires
first_repeat-k-requires c =
    rw c.receivers_of-receivers.ensures (λ each. c.requires (receives_once (instance_of c.args.parts.now) c.args.m each))

pub returns : goal.returns
returns c = record {
  message_is = c.message_name.ensures;
  place = c.first_repeat-k.result;
  first = rw c.receivers_of-receivers.ensures at c.first_repeat-k.ensures;
  receiver_is = rw c.receivers_of-receivers.ensures at c.process_name.ensures;
}
