use Rattle.std.proofs.Common.{Some}
use Rattle.plan_reasons.specs.declared.plan_links.Subject.TheVariants.{Process}
use Rattle.plan_reasons.proofs.PlanLeading.{all_there}
use Rattle.plan_reasons.proofs.plan_lines.plan_chain_reason.Goals as goal

pub lines_of-requires-clause-there : goal.lines_of-requires-clause-there
lines_of-requires-clause-there c =
    let chain = c.in_ok-links.ensures in
    rw c.as_slice.ensures.value (all_there c.args.instance.now c.args.plan.now (Some (Process chain.last)) c.in_ok-links.links.items chain.leads_back)
