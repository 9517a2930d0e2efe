-- What is judged of the bytes that a reader gave holds of all that it had.
use Rattle.std.proofs.Common.{◌≡◌, ℕ, List, length, Option, None, Some, IfSome, Result, Ok, Err, MatchResult}
use Rattle.ttp_model.specs.declared.plan.Plan.{Plan as Table}
use Rattle.ttp_model.specs.Instance.{Instance}
use Rattle.command_streams.specs.declared.limits.TheConstants.{PLAN_LIMIT}
use Rattle.command_streams.specs.declared.ending.Source.TheVariants as source
use Rattle.command_streams.specs.declared.ending.Fault.{Fault}
use Rattle.command_streams.specs.declared.ending.Fault.TheVariants.{PlanText, Plan, StatedDelay}
use Rattle.command_streams.specs.Streams.{IsReadFault}
use Rattle.command_streams.proofs.StatedOnce.{by_read_fault}
use Rattle.rates_command.specs.ReadPlans.{HasPlanOf, IsPlanFault, IsPlanRefusal}

module _ (i : Instance) (bytes : List ℕ) where
  refused : (fault : Fault) → IsPlanFault i bytes fault → IsPlanRefusal i bytes fault
  refused (PlanText error) why = why
  refused (Plan broken) why = why
  refused (StatedDelay ticks) why = why
  refused fault why = absurd why

  judged : (result : Result Table Fault) → MatchResult result (HasPlanOf i bytes) (IsPlanFault i bytes) → MatchResult result (HasPlanOf i bytes) (IsPlanRefusal i bytes)
  judged (Ok plan) has = has
  judged (Err fault) why = refused fault why

pub judged_of_reader : (known : Option (List ℕ)) (i : Instance) (read : List ℕ) (result : Result Table Fault) → IfSome known (λ bytes. read ≡ bytes)
    → MatchResult result (HasPlanOf i read) (IsPlanFault i read) → IfSome known (λ bytes. MatchResult result (HasPlanOf i bytes) (IsPlanRefusal i bytes))
judged_of_reader None i read result all is = tt
judged_of_reader (Some bytes) i read result all is = judged i bytes result (rw all at is)

-- the reader gave no text
pub unread_of_reader : (known : Option (List ℕ)) (i : Instance) (fault : Fault) → IsReadFault source.Plan PLAN_LIMIT known fault
    → IfSome known (λ bytes. IsPlanRefusal i bytes fault)
unread_of_reader None i fault is = tt
unread_of_reader (Some bytes) i fault is = by_read_fault (IsPlanRefusal i bytes) source.Plan PLAN_LIMIT (Some bytes) tt tt (λ long. long) fault is
