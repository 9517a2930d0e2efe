use Rattle.tt_infer.proofs.LateExample.{closes_late_rounds}
use Rattle.tt_infer.proofs.worked.one_message_is_not_sent_late.Goals as goal

pub returns : goal.returns
returns c = closes_late_rounds
