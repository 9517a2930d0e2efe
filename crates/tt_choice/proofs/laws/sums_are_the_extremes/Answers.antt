use Rattle.tt_choice.proofs.Exact.{start_least_is_least, start_most_is_most, end_least_is_least, end_most_is_most}
use Rattle.tt_choice.proofs.laws.sums_are_the_extremes.Goals as goal

pub returns : goal.returns
returns c = record {
  start_least = start_least_is_least;
  start_most = start_most_is_most;
  end_least = end_least_is_least;
  end_most = end_most_is_most;
}
