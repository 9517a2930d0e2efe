use Rattle.tt_choice.proofs.Children.{child-IsIn, IsIn-child, IsChoice-child}
use Rattle.tt_choice.proofs.Smaller.{size_left-child, size_left-child_le}
use Rattle.tt_choice.proofs.laws.children_share_the_plans.Goals as goal

pub returns : goal.returns
returns c = record {
  none_lost = child-IsIn;
  none_gained = IsIn-child;
  choices = IsChoice-child;
  smaller = size_left-child;
  no_larger = size_left-child_le;
}
