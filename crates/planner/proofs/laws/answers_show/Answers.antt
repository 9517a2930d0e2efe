use Rattle.planner.proofs.Shown.{answer_shows}
use Rattle.planner.proofs.laws.answers_show.Goals as goal

pub returns : goal.returns
returns c = answer_shows
