use Rattle.tt_choice.proofs.Decisions.{child_after, decision_is_open, IsChoice-after_all, IsIn-after}
use Rattle.tt_choice.proofs.laws.decisions_lead_to_the_children.Goals as goal

pub returns : goal.returns
returns c = record {
  child = child_after;
  is_open = decision_is_open;
  choice = IsChoice-after_all;
  plans = IsIn-after;
}
