use Rattle.std.proofs.Common.{◌≢◌}
use Rattle.ttp_model.specs.Lists.{EachBelow}
use Rattle.ttp_model.specs.Plans.{end_of}
use Rattle.ttp_model.specs.Delays.{delay}
use Rattle.plan_reasons.proofs.plan_links.last_to_end.Given as goal

abbrev pub invariant-loop-p : goal.invariant-loop-p
invariant-loop-p l = EachBelow l.p (λ q. end_of l.instance l.plan q ≢ delay l.instance l.plan)
