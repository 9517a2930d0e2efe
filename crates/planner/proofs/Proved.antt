-- What an answer shows, from what its certificate proves.
use Rattle.std.proofs.Common.{ℕ, List, Option, None, Some, sym, subst, ◌∙◌}
use Rattle.ttp_model.specs.Instance.{Instance}
use Rattle.ttp_model.specs.Rules.{IsInstance}
use Rattle.ttp_model.specs.Answers.{IsBestPlan}
use Rattle.ttp_model.specs.Delays.{IsLeastDelay, IsLowerBound}
use Rattle.certificate.specs.declared.node.Node.{Node}
use Rattle.search_workers.specs.Searching.{IsFound}
use Rattle.search_workers.specs.declared.found.FoundPlan.{FoundPlan}
use Rattle.search_workers.specs.declared.outcome.Options.{Options}
use Rattle.search_workers.specs.declared.outcome.Outcome.{Outcome}
use Rattle.search_workers.specs.declared.outcome.Outcome.TheVariants.{Optimal, Infeasible, Stopped}
use Rattle.tree_check.proofs.Bounds.{proved_bound, proved_least, proved_none}
use Rattle.planner.specs.Answers.{stated, IsBestAbove, IsOutcome, Shows}
use Rattle.planner.specs.Onward.{IsProved}
use Rattle.planner.specs.PartAnswers.{IsPartOutcome, IsPartStopped}

above_found : (i : Instance) (low : ℕ) (best : Option FoundPlan) → IsBestAbove i low best → IsFound i best
above_found i low None is = tt
above_found i low (Some best) is = is.0

-- an answer of a whole search, or of a part
pub outcome_proved : (i : Instance) (options : Options) (gap : ℕ) (outcome : Outcome) → IsOutcome i options gap outcome → IsProved i outcome
outcome_proved i options gap (Optimal plan ticks cert) is = record { proves = is.proves; found = is.says.0; bound = is.says.1 }
outcome_proved i options gap (Infeasible cert) is = record { proves = is.proves; found = tt; bound = is.says }
outcome_proved i options gap (Stopped why low best cert) is =
    record { proves = is.proves; found = above_found i low best is.says.above; bound = is.says.bound }

pub part_proved : (i : Instance) (options : Options) (gap : ℕ) (others : List Node) (outcome : Outcome) → IsPartOutcome i options gap others outcome → IsProved i outcome
part_proved i options gap others (Optimal plan ticks cert) is = record { proves = is.proves; found = is.says.0; bound = is.says.1 }
part_proved i options gap others (Infeasible cert) is = record { proves = is.proves; found = tt; bound = is.says }
part_proved i options gap others (Stopped why low best cert) is =
    let says : IsPartStopped i options gap others why low best cert = is.says in
    record { proves = is.proves; found = above_found i low best says.above; bound = says.bound }

best_is_plan : (i : Instance) (best : Option FoundPlan) → IsFound i best → IsBestPlan i (stated best)
best_is_plan i None is = tt
best_is_plan i (Some best) is = (is.settled.valid, is.delay_is)

-- what it tells is true
pub proved_shows : (i : Instance) (outcome : Outcome) → IsInstance i → IsProved i outcome → Shows i outcome
proved_shows i (Optimal plan ticks cert) w is =
    let least : IsLeastDelay i cert.low = proved_least i cert plan w is.proves is.found.settled.valid (sym is.found.delay_is ∙ sym is.bound) in
    (is.found.settled.valid, is.found.delay_is, subst (IsLeastDelay i) is.bound least)
proved_shows i (Infeasible cert) w is = proved_none i cert w is.proves is.bound
proved_shows i (Stopped why low best cert) w is =
    (subst (IsLowerBound i) is.bound (proved_bound i cert w is.proves), best_is_plan i best is.found)
