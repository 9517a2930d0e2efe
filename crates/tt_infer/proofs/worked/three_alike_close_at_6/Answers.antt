use Rattle.tt_infer.proofs.ThreeAlike.{closes_at_6, open_at_7}
use Rattle.tt_infer.proofs.worked.three_alike_close_at_6.Goals as goal

pub returns : goal.returns
returns c = record { at_6 = closes_at_6; at_7 = open_at_7 }
