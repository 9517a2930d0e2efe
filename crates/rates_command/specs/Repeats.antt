-- What `repeat` answers of the bytes of a cluster of several rates, and of those of a plan.
use Rattle.std.specs.Prelude.{ℕ, List, Option}
use Rattle.ttp_model.specs.Rules.{IsInstance}
use Rattle.command_streams.specs.declared.ending.Fault.{Fault}
use Rattle.ttp_model.specs.declared.plan.Plan.{Plan}
use Rattle.rates_model.specs.Rates.{Rates}
use Rattle.endless_schedules.specs.Unrolled.{unrolled}
use Rattle.endless_schedules.specs.Refusals.{IsUnrollFault}
use Rattle.rates_command.specs.declared.ending.RatesFault.{RatesFault}
use Rattle.rates_command.specs.declared.ending.RatesFault.TheVariants.{Memory, Text, Unrolled, Unread, TooLong, OfPlan}
use Rattle.rates_command.specs.declared.ending.RatesEnd.{RatesEnd}
use Rattle.rates_command.specs.declared.ending.RatesEnd.TheVariants.{Refused}
use Rattle.rates_command.specs.Answers.{AreRefusedFor, HasRates, IsRatesAnswer}
use Rattle.rates_command.specs.Cycles.{IsCycleText, IsPlanText}
use Rattle.rates_command.specs.ReadPlans.{HasPlanOf, IsPlanRefusal}

-- the bytes state a cluster of which something is told
pub record IsToldOf (Tells : Rates → List ℕ → Type 0) (bytes text : List ℕ) : Type 0 where
  pub rates : Rates
  pub has : HasRates bytes rates
  pub tells : Tells rates text

-- what `repeat` answers of bytes, and what it writes
abbrev pub IsRepeatAnswer : List ℕ → Option (List ℕ) → Option (List ℕ) → RatesEnd → Type 0
IsRepeatAnswer bytes = IsRatesAnswer (IsToldOf IsCycleText bytes) (AreRefusedFor bytes)

-- bytes spell a valid plan of the instance of a cycle, and this is told of it
pub record IsPlanTextOf (rho : Rates) (bytes text : List ℕ) : Type 0 where
  pub plan : Plan
  pub has : HasPlanOf (unrolled rho) bytes plan
  pub tells : IsPlanText rho plan text

-- why nothing is told of a cluster and the plan that bytes spell: its cycle has no instance, or else for the plan
abbrev pub IsOfPlan : Rates → List ℕ → RatesFault → Type 0
IsOfPlan rho plan Memory = Unit {0}
IsOfPlan rho plan (Unrolled why) = IsUnrollFault rho why
IsOfPlan rho plan (OfPlan why) = IsInstance (unrolled rho) × IsPlanRefusal (unrolled rho) plan why
IsOfPlan rho plan _ = ⊥

-- the bytes state a cluster with an instance, and those of the plan are at this fault
pub record IsOtherPlan (bytes plan : List ℕ) (why : Fault) : Type 0 where
  pub rates : Rates
  pub has : HasRates bytes rates
  pub instance : IsInstance (unrolled rates)
  pub refused : IsPlanRefusal (unrolled rates) plan why

-- why the bytes of a cluster and of a plan are refused: for the cluster, or else for the plan
abbrev pub AreBothRefused : List ℕ → List ℕ → RatesFault → Type 0
AreBothRefused bytes plan (OfPlan why) = IsOtherPlan bytes plan why
AreBothRefused bytes plan why = AreRefusedFor bytes why

-- what `repeat` answers of both, and what it writes
abbrev pub IsPlanRepeatAnswer : List ℕ → List ℕ → Option (List ℕ) → Option (List ℕ) → RatesEnd → Type 0
IsPlanRepeatAnswer bytes plan = IsRatesAnswer (IsToldOf (λ rho. IsPlanTextOf rho plan) bytes) (AreBothRefused bytes plan)

-- the fault is one of the cluster, or of its reader
abbrev pub IsOfRates : RatesFault → Type 0
IsOfRates (Text error) = Unit {0}
IsOfRates (Unrolled why) = Unit {0}
IsOfRates Unread = Unit {0}
IsOfRates TooLong = Unit {0}
IsOfRates _ = ⊥

-- what a fault says, where a command is refused
abbrev pub IfRatesRefused : RatesEnd → (RatesFault → Type 0) → Type 0
IfRatesRefused (Refused why) Says = Says why
IfRatesRefused _ Says = Unit {0}
