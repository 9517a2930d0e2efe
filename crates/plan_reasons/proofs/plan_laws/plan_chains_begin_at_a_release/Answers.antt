use Rattle.std.proofs.Common.{Some}
use Rattle.plan_reasons.specs.declared.plan_links.Subject.TheVariants.{Process}
use Rattle.plan_reasons.proofs.PlanLeading.{last_one}
use Rattle.plan_reasons.proofs.Settled.{released}
use Rattle.plan_reasons.proofs.plan_laws.plan_chains_begin_at_a_release.Goals as goal

pub returns : goal.returns
returns c = λ i plan later link w s chain.
    let one = last_one i plan later (Some (Process chain.last)) link chain.leads_back in
    released i plan w s link one.0 one.1
