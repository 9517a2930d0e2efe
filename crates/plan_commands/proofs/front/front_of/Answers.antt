use Rattle.std.proofs.Common.{refl}
use Rattle.std.proofs.lemmas.Bool.{false≢true}
use Rattle.plan_commands.proofs.AnswerLines.{no_end, no_line}
use Rattle.plan_commands.proofs.front.front_of.Goals as goal

pub returns-in_default : goal.returns-in_default
returns-in_default c = (refl, ((λ is. false≢true (c.if-is_no_plan.ensures.1 is)), no_end _ c.in_default.ensures.value))

pub returns-in-None : goal.returns-in-None
returns-in-None c = (refl, ((λ is. false≢true (c.if-is_no_plan.ensures.1 is)), no_line _ _ _ c.in-Some.ensures.value c.in-None.ensures))
