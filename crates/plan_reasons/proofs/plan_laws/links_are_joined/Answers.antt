use Rattle.std.proofs.Common.{Some}
use Rattle.plan_reasons.specs.declared.plan_links.Subject.TheVariants.{Process}
use Rattle.plan_reasons.proofs.PlanLeading.{joined, neighbours}
use Rattle.plan_reasons.proofs.plan_laws.links_are_joined.Goals as goal

pub returns : goal.returns
returns c = λ i plan later earlier link before chain.
    let two = neighbours i plan later (Some (Process chain.last)) link before earlier chain.leads_back in
    joined i plan link before two.0 two.1 two.2
