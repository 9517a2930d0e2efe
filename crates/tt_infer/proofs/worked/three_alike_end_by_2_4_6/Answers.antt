use Rattle.tt_infer.proofs.ThreeInOrder.{end_one_after_another, turned_is_refused}
use Rattle.tt_infer.proofs.worked.three_alike_end_by_2_4_6.Goals as goal

pub returns : goal.returns
returns c = record { ends = end_one_after_another; turned = turned_is_refused }
