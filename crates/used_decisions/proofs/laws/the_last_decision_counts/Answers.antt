use Rattle.used_decisions.proofs.Counts.{is_last, none_picked, is_kept}
use Rattle.used_decisions.proofs.laws.the_last_decision_counts.Goals as goal

pub returns : goal.returns
returns c = record { some = is_last; none = none_picked; kept = is_kept }
