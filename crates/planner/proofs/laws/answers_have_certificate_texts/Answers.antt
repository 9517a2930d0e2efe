use Rattle.planner.proofs.AnswerVersions.{answer_allows}
use Rattle.planner.proofs.laws.answers_have_certificate_texts.Goals as goal

pub returns : goal.returns
returns c = answer_allows
