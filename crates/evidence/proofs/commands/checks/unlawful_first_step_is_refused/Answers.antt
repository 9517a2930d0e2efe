use Rattle.evidence.proofs.FirstSteps.{unlawful_first}
use Rattle.evidence.proofs.commands.checks.unlawful_first_step_is_refused.Goals as goal

pub returns : goal.returns
returns c = λ leaf step steps. unlawful_first c.args.instance.now c.args.cert.now leaf step steps c.check.result c.check.ensures.answer
