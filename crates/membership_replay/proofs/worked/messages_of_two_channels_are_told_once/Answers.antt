use Rattle.std.proofs.Common.{refl}
use Rattle.membership_replay.specs.Trace.{deliveries, delivery}
use Rattle.membership_replay.proofs.worked.messages_of_two_channels_are_told_once.Goals as goal

pub returns-clause-once : goal.returns-clause-once
unfolding deliveries delivery
returns-clause-once c = refl

pub returns-clause-in_order : goal.returns-clause-in_order
unfolding deliveries delivery
returns-clause-in_order c = refl
