use Rattle.std.proofs.Common.{refl}
use Rattle.tt_choice.proofs.WorkedDecisions.{one_message_root, b_may_come_first, a_may_take_its_option, m_may_be_early, m_may_be_late, b_is_taken_out}
use Rattle.tt_choice.proofs.worked.one_message_is_decided_and_undone.Goals as goal

pub returns : goal.returns
returns c = record {
  choice = one_message_root;
  place = b_may_come_first;
  cap = a_may_take_its_option;
  at_most = m_may_be_early;
  at_least = m_may_be_late;
  decided = refl;
  kept = refl;
  undone = b_is_taken_out;
}
