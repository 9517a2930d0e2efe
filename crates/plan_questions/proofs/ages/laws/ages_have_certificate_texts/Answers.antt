use Rattle.plan_questions.proofs.AgeCuts.{age_allows}
use Rattle.plan_questions.proofs.ages.laws.ages_have_certificate_texts.Goals as goal

pub returns : goal.returns
returns c = age_allows
