use Rattle.tt_choice.proofs.Trail.{taken_back-kept_after, undone-kept_after}
use Rattle.tt_choice.proofs.laws.decisions_are_taken_back.Goals as goal

pub returns : goal.returns
returns c = record {
  taken_back = taken_back-kept_after;
  undone = undone-kept_after;
}
