use Rattle.plan_questions.proofs.Texts.{limit_allows}
use Rattle.plan_questions.proofs.limits.laws.limits_have_certificate_texts.Goals as goal

pub returns : goal.returns
returns c = λ i ps options limit w are. limit_allows i ps options w are limit
