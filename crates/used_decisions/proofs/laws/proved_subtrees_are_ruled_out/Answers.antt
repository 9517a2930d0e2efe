use Rattle.used_decisions.specs.Proved.{all_kept}
use Rattle.used_decisions.proofs.Marks.{keeps_all}
use Rattle.used_decisions.proofs.Below.{left_below}
use Rattle.used_decisions.proofs.laws.proved_subtrees_are_ruled_out.Goals as goal

pub returns : goal.returns
returns c = record {
  all = λ i low used decisions proved. proved (all_kept decisions) (keeps_all used 0 decisions);
  below = left_below;
}
