use Rattle.std.proofs.Common.{refl, arith}
use Rattle.tt_choice.proofs.WorkedDecisions.{message_of_two_root, m_may_be_on, both_are_freed}
use Rattle.tt_choice.proofs.worked.a_channel_is_fixed_and_freed.Goals as goal

pub returns : goal.returns
returns c = record {
  choice = message_of_two_root;
  first = m_may_be_on 0 (omega arith);
  second = m_may_be_on 1 (omega arith);
  both = m_may_be_on 2 (omega arith);
  decided = refl;
  undone = both_are_freed;
}
