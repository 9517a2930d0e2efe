use Rattle.std.proofs.Common.{List, subst}
use Rattle.tt_choice.specs.declared.decision.Decision.{Decision}
use Rattle.tt_choice.specs.Branches.{root_choice}
use Rattle.tt_choice.specs.Decisions.{AreOpenDecisions, chosen}
use Rattle.sought_plans.specs.Known.{IsSought}
use Rattle.used_decisions.proofs.Below.{left_below}
use Rattle.search_workers.proofs.laws.spared_tasks_have_no_plan.Goals as goal

pub returns : goal.returns
returns c = λ i low made task w is spared reached plan sought.
    left_below i low spared.front spared.more w (spared.ruled_out low reached)
    (subst (λ (ds : List Decision). AreOpenDecisions i (root_choice i) ds) spared.decisions is.decisions) plan
    (subst (λ (ds : List Decision). IsSought i (chosen i ds) low plan) spared.decisions sought)
