use Rattle.tt_choice.proofs.WorkedDecisions.{three_alike_root, a_may_go_before_b}
use Rattle.tt_choice.proofs.worked.three_alike_may_be_ordered.Goals as goal

pub returns : goal.returns
returns c = record {
  choice = three_alike_root;
  before = a_may_go_before_b;
}
