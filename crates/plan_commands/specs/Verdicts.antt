-- What the bytes of an instance and of a plan are judged to be, and what `verify` writes of them.
use Rattle.std.specs.Prelude.{◌≡◌, ◌≢◌, ℕ, ◌<◌, ◌≤◌, List, [], ◌∷◌, ◌++◌, length, codes, decimal, Option}
use Rattle.ttp_model.specs.Instance.{Instance}
use Rattle.ttp_model.specs.Plans.{IsValid}
use Rattle.ttp_model.specs.Delays.{delay}
use Rattle.ttp_model.specs.Faults as plan_faults
use Rattle.ttp_model.specs.declared.fault.PlanFault.{PlanFault}
use Rattle.ttp_model.specs.declared.plan.Plan.{Plan as Table}
use Rattle.plan_format.specs.Spelling.{SpellsPlan}
use Rattle.plan_format.specs.Reading.{HasFront, IsFaultOf, plan_at}
use Rattle.command_streams.specs.declared.limits.TheConstants.{INSTANCE_LIMIT, PLAN_LIMIT}
use Rattle.plan_commands.specs.declared.verdict.Verified.{Verified}
use Rattle.command_streams.specs.declared.ending.Source.TheVariants as source
use Rattle.command_streams.specs.declared.ending.Fault.{Fault}
use Rattle.command_streams.specs.declared.ending.Fault.TheVariants.{InstanceText, Memory, PlanText, Plan, StatedDelay, TooLong, Unread}
use Rattle.command_streams.specs.declared.ending.End.{End}
use Rattle.command_streams.specs.Outcomes.{IsCommandAnswer, OnDone}
use Rattle.command_streams.specs.Instances.{HasInstance, IsInstanceFault, StatesSome}

-- the bytes are within their limit, and spell this plan of the instance with this stated delay
pub record HasPlan (i : Instance) (bytes : List ℕ) (plan : Table) (stated : ℕ) : Type 0 where
  pub within : length bytes ≤ PLAN_LIMIT
  pub spelled : SpellsPlan i bytes plan stated

-- the bytes spell this plan of the instance, which is valid, and state its own delay: so many ticks
pub record HasValidPlan (i : Instance) (bytes : List ℕ) (plan : Table) (d : ℕ) : Type 0 where
  pub has_plan : HasPlan i bytes plan d
  pub valid : IsValid i plan
  pub has_delay : delay i plan ≡ d

-- the bytes spell a plan that breaks a rule, and this is its fault
pub record IsBroken (i : Instance) (bytes : List ℕ) (fault : PlanFault) : Type 0 where
  pub plan : Table
  pub stated : ℕ
  pub has_plan : HasPlan i bytes plan stated
  pub broken : plan_faults.IsFirstFault i plan fault

-- the bytes spell a valid plan with another stated delay than its own, which is this
pub record IsMisstated (i : Instance) (bytes : List ℕ) (d : ℕ) : Type 0 where
  pub plan : Table
  pub stated : ℕ
  pub has_plan : HasPlan i bytes plan stated
  pub valid : IsValid i plan
  pub has_delay : delay i plan ≡ d
  pub other : stated ≢ d

-- why bytes within their limit give no valid plan of the instance that states its own delay
abbrev pub IsPlanFault : Instance → List ℕ → Fault → Type 0
IsPlanFault i bytes (PlanText error) = (length bytes ≤ PLAN_LIMIT) × IsFaultOf (HasFront i bytes) error (plan_at i bytes)
IsPlanFault i bytes (Plan fault) = IsBroken i bytes fault
IsPlanFault i bytes (StatedDelay d) = IsMisstated i bytes d
IsPlanFault i bytes _ = ⊥

-- this instance, and a valid plan of it that the bytes spell with its own delay
pub record IsVerifiedPlan (i : Instance) (bytes : List ℕ) (v : Verified) : Type 0 where
  pub of : v.instance ≡ i
  pub has_plan : HasValidPlan i bytes v.plan v.delay

-- the bytes of an instance and of a valid plan of it that states its own delay
pub record IsVerified (instance plan : List ℕ) (v : Verified) : Type 0 where
  pub has_instance : HasInstance instance v.instance
  pub has_plan : HasValidPlan v.instance plan v.plan v.delay

-- the instance is stated, and the plan's bytes are at this fault
pub record IsPlanRefused (instance plan : List ℕ) (fault : Fault) : Type 0 where
  pub problem : Instance
  pub has_instance : HasInstance instance problem
  pub refused : IsPlanFault problem plan fault

-- why the bytes of an instance and of a plan are refused: for the instance, or else for the plan
abbrev pub IsRefused : List ℕ → List ℕ → Fault → Type 0
IsRefused instance plan (InstanceText error) = IsInstanceFault instance (InstanceText error)
IsRefused instance plan Memory = Unit {0}
IsRefused instance plan (Unread source.Instance) = Unit {0}
IsRefused instance plan (Unread source.Plan) = StatesSome instance
IsRefused instance plan (TooLong source.Instance) = INSTANCE_LIMIT < length instance
IsRefused instance plan (TooLong source.Plan) = StatesSome instance × (PLAN_LIMIT < length plan)
IsRefused instance plan (PlanText error) = IsPlanRefused instance plan (PlanText error)
IsRefused instance plan (Plan fault) = IsPlanRefused instance plan (Plan fault)
IsRefused instance plan (StatedDelay d) = IsPlanRefused instance plan (StatedDelay d)
IsRefused instance plan _ = ⊥

-- a text that tells something of an instance and a valid plan, which are verified so
pub record IsTold (IsVerifiedAs : Verified → Type 0) (Tells : Instance → Table → List ℕ → Type 0) (text : List ℕ) : Type 0 where
  pub verified : Verified
  pub is : IsVerifiedAs verified
  pub tells : Tells verified.instance verified.plan text

-- the line of a valid plan, with its delay
abbrev pub valid_line : ℕ → List ℕ
valid_line d = codes "valid " ++ (decimal d ++ 10 ∷ [])

-- what `verify` tells of a valid plan
abbrev pub IsValidLine : Instance → Table → List ℕ → Type 0
IsValidLine i plan text = text ≡ valid_line (delay i plan)

-- what `verify` answers of the bytes of an instance and of a plan, and what it writes
abbrev pub IsVerdict : List ℕ → List ℕ → Option (List ℕ) → Option (List ℕ) → End → Type 0
IsVerdict instance plan = IsCommandAnswer (OnDone (IsTold (IsVerified instance plan) IsValidLine)) (IsRefused instance plan)
