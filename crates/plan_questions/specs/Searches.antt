-- What a search tells that ends at its first plan. Own profile.
use Rattle.std.specs.Prelude.{◌≡◌, ℕ, None}
use Rattle.ttp_model.specs.declared.plan.Plan.{Plan}
use Rattle.ttp_model.specs.Instance.{Instance}
use Rattle.ttp_model.specs.Plans.{IsValid}
use Rattle.ttp_model.specs.Delays.{delay, HasNoPlan}
use Rattle.certificate.specs.Cert.{Cert}
use Rattle.planner.specs.outcome.Options.{Options}
use Rattle.planner.specs.outcome.Outcome.TheVariants.{Infeasible, Stopped}
use Rattle.planner.specs.outcome.Why.{Why}
use Rattle.planner.specs.Answers.{IsOutcome}
use Rattle.plan_questions.specs.declared.sought.Sought.{Sought}
use Rattle.plan_questions.specs.declared.sought.Sought.TheVariants.{Found, Absent, Open}

-- a valid plan with its delay
abbrev pub IsPlanOf : Instance → ℕ → Plan → Type 0
IsPlanOf i ticks plan = IsValid i plan × (ticks ≡ delay i plan)

-- an instance has no plan, and a search of it answers so with this certificate
pub record IsShown (i : Instance) (options : Options) (cert : Cert) : Type 0 where
  pub none : HasNoPlan i
  pub answered : IsOutcome i options 0 (Infeasible cert)

-- a search of an instance was stopped before it found a plan, and answers so with this certificate
pub record IsLeftOpen (i : Instance) (options : Options) (cert : Cert) : Type 0 where
  pub why : Why
  pub low : ℕ
  pub answered : IsOutcome i options 0 (Stopped why low None cert)

-- a search of an instance was stopped before it found a plan
pub record WasStopped (i : Instance) (options : Options) : Type 0 where
  pub cert : Cert
  pub left : IsLeftOpen i options cert

-- what a search for any plan tells
abbrev pub Tells : Instance → Options → Sought → Type 0
Tells i options (Found ticks plan) = IsPlanOf i ticks plan
Tells i options (Absent cert) = IsShown i options cert
Tells i options (Open cert) = IsLeftOpen i options cert
