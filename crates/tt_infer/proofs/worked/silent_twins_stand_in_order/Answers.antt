use Rattle.tt_infer.proofs.TwoSilent.{closes_second_first, in_order_is_refused}
use Rattle.tt_infer.proofs.worked.silent_twins_stand_in_order.Goals as goal

pub returns : goal.returns
returns c = record { turned = closes_second_first; in_order = in_order_is_refused }
