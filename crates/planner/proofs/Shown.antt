-- What an answer shows, from what its certificate proves.
use Rattle.std.proofs.Common.{ℕ, Option, None, Some, sym, subst, ◌∙◌}
use Rattle.search_workers.specs.declared.found.FoundPlan.{FoundPlan}
use Rattle.ttp_model.specs.Instance.{Instance}
use Rattle.ttp_model.specs.Rules.{IsInstance}
use Rattle.ttp_model.specs.Delays.{IsLeastDelay, IsLowerBound}
use Rattle.tree_check.proofs.Bounds.{proved_bound, proved_none, proved_least}
use Rattle.search_workers.specs.declared.outcome.Options.{Options}
use Rattle.search_workers.specs.declared.outcome.Outcome.{Outcome}
use Rattle.search_workers.specs.declared.outcome.Outcome.TheVariants.{Optimal, Infeasible, Stopped}
use Rattle.planner.specs.Answers.{IsOutcome, IsBestAbove, Shows, stated}
use Rattle.ttp_model.specs.Answers.{IsBestPlan}

best_is_plan : (i : Instance) (low : ℕ) (best : Option FoundPlan) → IsBestAbove i low best → IsBestPlan i (stated best)
best_is_plan i low None is = tt
best_is_plan i low (Some best) is = (is.0.settled.valid, is.0.delay_is)

pub answer_shows : (i : Instance) (options : Options) (gap : ℕ) (outcome : Outcome) → IsInstance i → IsOutcome i options gap outcome → Shows i outcome
answer_shows i options gap (Optimal plan ticks cert) w is =
    let least : IsLeastDelay i cert.low = proved_least i cert plan w is.proves is.says.0.settled.valid (sym is.says.0.delay_is ∙ sym is.says.1) in
    (is.says.0.settled.valid, is.says.0.delay_is, subst (IsLeastDelay i) is.says.1 least)
answer_shows i options gap (Infeasible cert) w is = proved_none i cert w is.proves is.says
answer_shows i options gap (Stopped why low best cert) w is =
    (subst (IsLowerBound i) is.says.bound (proved_bound i cert w is.proves), best_is_plan i low best is.says.above)
