-- What is told of a cluster that bytes state, and of a plan of it, is an answer of the bytes.
use Rattle.std.proofs.Common.{◌≡◌, ℕ, List, Option, None, Some, IfSome, subst}
use Rattle.std.specs.Io.KnownBytes.{Keeps}
use Rattle.ttp_model.specs.declared.plan.Plan.{Plan}
use Rattle.ttp_model.specs.Instance.{Instance}
use Rattle.ttp_model.specs.Rules.{IsInstance}
use Rattle.command_streams.specs.declared.ending.Fault.{Fault}
use Rattle.rates_model.specs.Rates.{Rates}
use Rattle.endless_schedules.specs.declared.unrolling.UnrollFault.{UnrollFault}
use Rattle.endless_schedules.specs.Refusals.{IsUnrollFault}
use Rattle.endless_schedules.specs.Unrolled.{unrolled}
use Rattle.rates_command.specs.declared.ending.RatesFault.{RatesFault}
use Rattle.rates_command.specs.declared.ending.RatesFault.TheVariants.{Memory, Text, Unrolled, Unread, TooLong, OfPlan, Unwritten}
use Rattle.rates_command.specs.declared.ending.RatesEnd.{RatesEnd}
use Rattle.rates_command.specs.declared.ending.RatesEnd.TheVariants.{Refused}
use Rattle.rates_command.specs.Answers.{AreRefusedFor, HasRates, IsOfMemory, IsOfUnrolling, IsRatesAnswer}
use Rattle.rates_command.specs.Cycles.{IsCycleText, IsPlanText}
use Rattle.rates_command.specs.Repeats.{AreBothRefused, IsOfPlan, IsPlanRepeatAnswer, IsPlanTextOf, IsRepeatAnswer, IsToldOf}
use Rattle.rates_command.specs.ReadPlans.{HasPlanOf, IsPlanRefusal}
use Rattle.rates_command.proofs.Unrollings.{answered, not_unrolled, refused_so}

-- of the cluster alone
pub repeat_of_reader : (known : Option (List ℕ)) (rho : Rates) (old new : Option (List ℕ)) (end : RatesEnd) → IfSome known (λ bytes. HasRates bytes rho)
    → IsRatesAnswer (IsCycleText rho) (IsOfUnrolling rho) old new end → IfSome known (λ bytes. IsRepeatAnswer bytes old new end)
repeat_of_reader None rho old new end has told = tt
repeat_of_reader (Some bytes) rho old new end has told =
    answered (IsCycleText rho) (IsToldOf IsCycleText bytes) (λ text tells. record { rates = rho; has = has; tells = tells })
    (IsOfUnrolling rho) (AreRefusedFor bytes) (not_unrolled bytes rho has) old new end told

pub repeat_refused : (known old : Option (List ℕ)) (fault : RatesFault) → Keeps old old → IfSome known (λ bytes. AreRefusedFor bytes fault)
    → IfSome known (λ bytes. IsRepeatAnswer bytes old old (Refused fault))
repeat_refused None old fault kept why = tt
repeat_refused (Some bytes) old fault kept why = refused_so (IsToldOf IsCycleText bytes) (AreRefusedFor bytes) (λ never. never) old fault kept why

-- of the plan that a reader spells
module _ (rho : Rates) (plan : List ℕ) where
  of_memory : (fault : RatesFault) → IsOfMemory fault → IsOfPlan rho plan fault
  of_memory Memory why = tt
  of_memory fault why = absurd why

  plan_told : (read : Plan) → HasPlanOf (unrolled rho) plan read → (old new : Option (List ℕ)) (end : RatesEnd)
      → IsRatesAnswer (IsPlanText rho read) IsOfMemory old new end → IsRatesAnswer (IsPlanTextOf rho plan) (IsOfPlan rho plan) old new end
  plan_told read has old new end told =
      answered (IsPlanText rho read) (IsPlanTextOf rho plan) (λ text tells. record { plan = read; has = has; tells = tells }) IsOfMemory (IsOfPlan rho plan) of_memory old new end told

pub plan_of_reader : (known : Option (List ℕ)) (rho : Rates) (i : Instance) (read : Plan) (old new : Option (List ℕ)) (end : RatesEnd) → i ≡ unrolled rho
    → IfSome known (λ plan. HasPlanOf i plan read) → IsRatesAnswer (IsPlanText rho read) IsOfMemory old new end
    → IfSome known (λ plan. IsRatesAnswer (IsPlanTextOf rho plan) (IsOfPlan rho plan) old new end)
plan_of_reader None rho i read old new end of has told = tt
plan_of_reader (Some plan) rho i read old new end of has told = plan_told rho plan read (subst (λ (it : Instance). HasPlanOf it plan read) of has) old new end told

pub plan_refused : (known : Option (List ℕ)) (rho : Rates) (i : Instance) (fault : Fault) (old : Option (List ℕ)) → i ≡ unrolled rho → IsInstance i → Keeps old old
    → IfSome known (λ plan. IsPlanRefusal i plan fault) → IfSome known (λ plan. IsRatesAnswer (IsPlanTextOf rho plan) (IsOfPlan rho plan) old old (Refused (OfPlan fault)))
plan_refused None rho i fault old of keeps kept why = tt
plan_refused (Some plan) rho i fault old of keeps kept why = ((subst IsInstance of keeps, subst (λ (it : Instance). IsPlanRefusal it plan fault) of why), kept)

pub plan_unrolled : (known : Option (List ℕ)) (rho : Rates) (fault : UnrollFault) (old : Option (List ℕ)) → Keeps old old → IsUnrollFault rho fault
    → IfSome known (λ plan. IsRatesAnswer (IsPlanTextOf rho plan) (IsOfPlan rho plan) old old (Refused (Unrolled fault)))
plan_unrolled None rho fault old kept why = tt
plan_unrolled (Some plan) rho fault old kept why = (why, kept)

-- and of both readers
module _ (bytes plan : List ℕ) where
  both_refused : (fault : RatesFault) → AreRefusedFor bytes fault → AreBothRefused bytes plan fault
  both_refused (OfPlan fault) why = absurd why
  both_refused Memory why = why
  both_refused (Text error) why = why
  both_refused (Unrolled fault) why = why
  both_refused Unread why = why
  both_refused TooLong why = why
  both_refused Unwritten why = why

  module _ (rho : Rates) (has : HasRates bytes rho) where
    of_plan : (fault : RatesFault) → IsOfPlan rho plan fault → AreBothRefused bytes plan fault
    of_plan Memory why = tt
    of_plan (Unrolled fault) why = record { rates = rho; has = has; refused = why }
    of_plan (OfPlan fault) why = record { rates = rho; has = has; instance = why.0; refused = why.1 }
    of_plan fault why = absurd why

    both_told : (old new : Option (List ℕ)) (end : RatesEnd) → IsRatesAnswer (IsPlanTextOf rho plan) (IsOfPlan rho plan) old new end → IsPlanRepeatAnswer bytes plan old new end
    both_told old new end told =
        answered (IsPlanTextOf rho plan) (IsToldOf (λ it. IsPlanTextOf it plan) bytes) (λ text tells. record { rates = rho; has = has; tells = tells })
        (IsOfPlan rho plan) (AreBothRefused bytes plan) of_plan old new end told

pub told_of_both : (a b : Option (List ℕ)) (rho : Rates) (old new : Option (List ℕ)) (end : RatesEnd) → IfSome a (λ bytes. HasRates bytes rho)
    → IfSome b (λ plan. IsRatesAnswer (IsPlanTextOf rho plan) (IsOfPlan rho plan) old new end)
    → IfSome a (λ bytes. IfSome b (λ plan. IsPlanRepeatAnswer bytes plan old new end))
told_of_both None b rho old new end has told = tt
told_of_both (Some bytes) None rho old new end has told = tt
told_of_both (Some bytes) (Some plan) rho old new end has told = both_told bytes plan rho has old new end told

pub both_are_refused : (a b old : Option (List ℕ)) (fault : RatesFault) → Keeps old old → IfSome a (λ bytes. AreRefusedFor bytes fault)
    → IfSome a (λ bytes. IfSome b (λ plan. IsPlanRepeatAnswer bytes plan old old (Refused fault)))
both_are_refused None b old fault kept why = tt
both_are_refused (Some bytes) None old fault kept why = tt
both_are_refused (Some bytes) (Some plan) old fault kept why =
    refused_so (IsToldOf (λ it. IsPlanTextOf it plan) bytes) (AreBothRefused bytes plan) (λ never. never) old fault kept (both_refused bytes plan fault why)
