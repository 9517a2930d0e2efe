use Rattle.std.proofs.Common.{◌≤◌}
use Rattle.ttp_model.specs.Plans.{IsValid}
use Rattle.ttp_model.specs.Delays.{delay}
use Rattle.ttp_model.specs.Moves.{MovesLead}
use Rattle.tt_settle.proofs.OneNumber.{whole_weight}
use Rattle.tt_settle.proofs.settling.settle_in_place.Given as goal

abbrev pub invariant-loop-plan : goal.invariant-loop-plan
invariant-loop-plan l = IsValid l.instance l.plan × (delay l.instance l.plan ≤ delay l.instance l.fn.plan) × MovesLead l.instance l.fn.plan l.plan

abbrev pub decreases-loop-plan : goal.decreases-loop-plan
decreases-loop-plan l = whole_weight l.instance l.plan
