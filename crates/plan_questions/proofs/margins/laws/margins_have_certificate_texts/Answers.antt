use Rattle.plan_questions.proofs.MarginCuts.{margin_allows}
use Rattle.plan_questions.proofs.margins.laws.margins_have_certificate_texts.Goals as goal

pub returns : goal.returns
returns c = margin_allows
