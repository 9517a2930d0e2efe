use Rattle.std.proofs.Common.{Some}
use Rattle.plan_reasons.specs.declared.plan_links.Subject.TheVariants.{Process}
use Rattle.plan_reasons.proofs.PlanShort.{short}
use Rattle.plan_reasons.proofs.plan_laws.plan_chains_are_short.Goals as goal

pub returns : goal.returns
returns c = λ i plan links w v chain. short i plan w v (Some (Process chain.last)) links chain.leads_back
