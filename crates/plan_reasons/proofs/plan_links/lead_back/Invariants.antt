use Rattle.std.proofs.Common.{◌++◌, List, Some, IfSome}
use Rattle.plan_reasons.specs.declared.plan_links.ChainLink.{ChainLink}
use Rattle.plan_reasons.specs.declared.plan_links.Subject.TheVariants.{Process}
use Rattle.plan_reasons.specs.PlanChains.{LeadsBack}
use Rattle.plan_reasons.specs.PlanThere.{IsThere}
use Rattle.plan_reasons.proofs.PlanFalling.{depth}
use Rattle.plan_reasons.proofs.plan_links.lead_back.Given as goal

abbrev pub invariant-back : goal.invariant-back
invariant-back l = record {
  inside : IfSome l.next (IsThere l.instance);
  leads : (rest : List ChainLink) → LeadsBack l.instance l.plan l.next rest → LeadsBack l.instance l.plan (Some (Process l.last)) (l.links.items ++ rest);
}

abbrev pub decreases-back : goal.decreases-back
decreases-back l = depth l.instance l.plan l.next
