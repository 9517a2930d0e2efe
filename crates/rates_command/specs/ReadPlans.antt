-- Which valid plan of an instance bytes spell, and why they spell none: as `verify` judges them.
use Rattle.std.specs.Prelude.{◌≡◌, ◌≢◌, ℕ, ◌<◌, ◌≤◌, List, length}
use Rattle.ttp_model.specs.declared.fault.PlanFault.{PlanFault}
use Rattle.ttp_model.specs.declared.plan.Plan.{Plan as Table}
use Rattle.ttp_model.specs.Instance.{Instance}
use Rattle.ttp_model.specs.Plans.{IsValid}
use Rattle.ttp_model.specs.Delays.{delay}
use Rattle.ttp_model.specs.Faults as plan_faults
use Rattle.plan_format.specs.Spelling.{SpellsPlan}
use Rattle.plan_format.specs.Reading.{HasFront, IsFaultOf, plan_at}
use Rattle.command_streams.specs.declared.limits.TheConstants.{PLAN_LIMIT}
use Rattle.command_streams.specs.declared.ending.Source.TheVariants as source
use Rattle.command_streams.specs.declared.ending.Fault.{Fault}
use Rattle.command_streams.specs.declared.ending.Fault.TheVariants.{Memory, PlanText, Plan, StatedDelay, TooLong, Unread}

-- the bytes are within their limit, and spell this plan of the instance with this stated delay
pub record SpellPlan (i : Instance) (bytes : List ℕ) (plan : Table) (stated : ℕ) : Type 0 where
  pub within : length bytes ≤ PLAN_LIMIT
  pub spelled : SpellsPlan i bytes plan stated

-- they spell this plan, which is valid and states its own delay
pub record HasPlanOf (i : Instance) (bytes : List ℕ) (plan : Table) : Type 0 where
  pub stated : ℕ
  pub spell : SpellPlan i bytes plan stated
  pub valid : IsValid i plan
  pub own : delay i plan ≡ stated

-- they spell a plan that breaks a rule, and this is its fault
pub record IsBroken (i : Instance) (bytes : List ℕ) (fault : PlanFault) : Type 0 where
  pub plan : Table
  pub stated : ℕ
  pub spell : SpellPlan i bytes plan stated
  pub broken : plan_faults.IsFirstFault i plan fault

-- they spell a valid plan with another stated delay than its own, which is this
pub record IsMisstated (i : Instance) (bytes : List ℕ) (ticks : ℕ) : Type 0 where
  pub plan : Table
  pub stated : ℕ
  pub spell : SpellPlan i bytes plan stated
  pub valid : IsValid i plan
  pub own : delay i plan ≡ ticks
  pub other : stated ≢ ticks

-- why bytes within their limit give no valid plan of the instance that states its own delay
abbrev pub IsPlanFault : Instance → List ℕ → Fault → Type 0
IsPlanFault i bytes (PlanText error) = (length bytes ≤ PLAN_LIMIT) × IsFaultOf (HasFront i bytes) error (plan_at i bytes)
IsPlanFault i bytes (Plan fault) = IsBroken i bytes fault
IsPlanFault i bytes (StatedDelay ticks) = IsMisstated i bytes ticks
IsPlanFault i bytes _ = ⊥

-- and why a reader gives none
abbrev pub IsPlanRefusal : Instance → List ℕ → Fault → Type 0
IsPlanRefusal i bytes Memory = Unit {0}
IsPlanRefusal i bytes (Unread source.Plan) = Unit {0}
IsPlanRefusal i bytes (TooLong source.Plan) = PLAN_LIMIT < length bytes
IsPlanRefusal i bytes other = IsPlanFault i bytes other
