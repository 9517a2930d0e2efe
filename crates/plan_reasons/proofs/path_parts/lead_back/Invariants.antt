use Rattle.std.proofs.Common.{ℕ, ◌++◌, ◌<◌, IfSome, List, Some, length}
use Rattle.plan_reasons.specs.declared.path_parts.ChainPart.{ChainPart}
use Rattle.plan_reasons.specs.PathChains.{LeadsBack}
use Rattle.plan_reasons.proofs.PathFalling.{depth}
use Rattle.plan_reasons.proofs.path_parts.lead_back.Given as goal

abbrev pub invariant-back : goal.invariant-back
invariant-back l = record {
  inside : IfSome l.next (λ (p : ℕ). p < length l.instance.processes);
  leads : (rest : List ChainPart) → LeadsBack l.instance l.ends l.next rest → LeadsBack l.instance l.ends (Some l.last) (l.parts.items ++ rest);
}

abbrev pub decreases-back : goal.decreases-back
decreases-back l = depth l.ends l.next
