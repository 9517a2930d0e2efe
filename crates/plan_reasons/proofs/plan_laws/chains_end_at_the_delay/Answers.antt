use Rattle.plan_reasons.proofs.PlanLeading.{first_ends}
use Rattle.plan_reasons.proofs.plan_laws.chains_end_at_the_delay.Goals as goal

pub returns-clause-some : goal.returns-clause-some
returns-clause-some c = λ i plan chain. let none = chain.leads_back in absurd (cc)

pub returns-clause-delay : goal.returns-clause-delay
returns-clause-delay c = λ i plan link links chain. first_ends i plan chain.last link chain.leads_back.0 chain.leads_back.1 chain.ends_last.holds
