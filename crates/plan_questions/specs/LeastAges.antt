-- What is answered of a chain whose age is to be small: its least age, or bounds of it, and what shows it. Times are ticks.
use Rattle.std.specs.Prelude.{◌≡◌, ℕ, ◌-◌, ◌<◌, ◌≤◌, length}
use Rattle.ttp_model.specs.declared.plan.Plan.{Plan}
use Rattle.ttp_model.specs.Lists.{IsFirstFailure}
use Rattle.ttp_model.specs.Rules.{CanEndInTime, IsInstance}
use Rattle.ttp_model.specs.Plans.{IsValid}
use Rattle.ttp_model.specs.Delays.{HasNoPlan}
use Rattle.certificate.specs.Cert.{Cert}
use Rattle.planner.specs.outcome.Options.{Options}
use Rattle.rates_model.specs.Rates.{Rates, chain_at}
use Rattle.endless_schedules.specs.Unrolled.{unrolled}
use Rattle.endless_schedules.specs.Ages.{IsAge}
use Rattle.endless_schedules.specs.Bounds.{IsLeastAge, IsLowerAge}
use Rattle.endless_schedules.specs.Aging.{aged, window_age}
use Rattle.plan_questions.specs.Cuts.{middle}
use Rattle.plan_questions.specs.Searches.{IsShown, WasStopped}
use Rattle.plan_questions.specs.declared.ages.answer.LeastAge.{LeastAge}
use Rattle.plan_questions.specs.declared.ages.answer.LeastAge.TheVariants.{Least, Window, Between, Unknown, Never}

-- a valid plan, and how old what the chain carries is in it
pub record HasOwnAge (rho : Rates) (x age : ℕ) (plan : Plan) : Type 0 where
  pub valid : IsValid (unrolled rho) plan
  pub own : IsAge rho plan (chain_at rho x) age

-- The least age, and a plan that has it; with one less all rules are kept, and a search said that there is no plan.
pub record IsShownLeast (rho : Rates) (x : ℕ) (options : Options) (age : ℕ) (plan : Plan) (cert : Cert) : Type 0 where
  pub least : IsLeastAge rho x age
  pub has : HasOwnAge rho x age plan
  pub some : 1 ≤ age
  pub within : age ≤ (chain_at rho x).age
  pub lawful : IsInstance (aged rho x (age - 1))
  pub shown : IsShown (aged rho x (age - 1)) options cert

-- The least age, and a plan that has it; this job is the first that has no room by itself with one less.
pub record IsWindow (rho : Rates) (x age job : ℕ) (plan : Plan) : Type 0 where
  pub least : IsLeastAge rho x age
  pub has : HasOwnAge rho x age plan
  pub some : 1 ≤ age
  pub full : IsFirstFailure (length (unrolled rho).processes) (CanEndInTime (aged rho x (age - 1))) job

-- No valid plan has an age below low, with which each job has room by itself, and this one has high; a search half way was stopped before it
-- found one.
pub record IsBetween (rho : Rates) (x : ℕ) (options : Options) (low high : ℕ) (plan : Plan) : Type 0 where
  pub lower : IsLowerAge rho x low
  pub window : window_age rho x ≤ low
  pub apart : low < high
  pub has : HasOwnAge rho x high plan
  pub stopped : WasStopped (aged rho x (middle low high)) options

-- No valid plan has an age below low, the least with which each job has room by itself; the search for any plan was stopped before it found one.
pub record IsUnknown (rho : Rates) (x : ℕ) (options : Options) (low : ℕ) : Type 0 where
  pub lower : IsLowerAge rho x low
  pub window : low ≡ window_age rho x
  pub stopped : WasStopped (unrolled rho) options

-- what is answered
abbrev pub IsAnswer : Rates → ℕ → Options → LeastAge → Type 0
IsAnswer rho x options (Least age plan cert) = IsShownLeast rho x options age plan cert
IsAnswer rho x options (Window age job plan) = IsWindow rho x age job plan
IsAnswer rho x options (Between low high plan) = IsBetween rho x options low high plan
IsAnswer rho x options (Unknown low) = IsUnknown rho x options low
IsAnswer rho x options Never = HasNoPlan (unrolled rho)
