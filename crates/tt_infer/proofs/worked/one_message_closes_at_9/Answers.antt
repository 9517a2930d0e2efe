use Rattle.tt_infer.proofs.OneMessage.{closes_at_9, open_at_10, bound_is_9}
use Rattle.tt_infer.proofs.worked.one_message_closes_at_9.Goals as goal

pub returns : goal.returns
returns c = record { at_9 = closes_at_9; at_10 = open_at_10; bound = bound_is_9 }
