-- The plan of a printed text: its own text, or what stands behind the line that a search printed in front of it; and why there is none.
use Rattle.std.specs.Prelude.{◌≡◌, ℕ, ◌+◌, ◌<◌, ◌≤◌, ◌^◌, ◌⊎◌, List, [], ◌∷◌, length}
use Rattle.ttp_model.specs.declared.plan.Plan.{Plan as Table}
use Rattle.ttp_model.specs.Instance.{Instance}
use Rattle.plan_format.specs.declared.fault.LineFault.{LineFault}
use Rattle.plan_format.specs.declared.fault.LineFault.TheVariants.{EarlyEnd, Form, Trailing}
use Rattle.plan_format.specs.declared.fault.PlanTextError.{PlanTextError}
use Rattle.plan_format.specs.declared.fault.PlanTextError.TheVariants.{At, OutOfMemory}
use Rattle.command_streams.specs.declared.limits.TheConstants.{INSTANCE_LIMIT, PLAN_LIMIT}
use Rattle.command_streams.specs.declared.ending.Source.TheVariants as source
use Rattle.command_streams.specs.declared.ending.Fault.{Fault}
use Rattle.command_streams.specs.declared.ending.Fault.TheVariants.{InstanceText, Memory, PlanText, Plan, StatedDelay, TooLong, Unread}
use Rattle.command_streams.specs.Instances.{HasInstance, IsInstanceFault, StatesSome}
use Rattle.plan_commands.specs.declared.front.Front.{Front}
use Rattle.plan_commands.specs.declared.front.Front.TheVariants as front
use Rattle.plan_commands.specs.declared.verdict.Verified.{Verified}
use Rattle.plan_commands.specs.Fronts.{BeginsWith, longest_answer_line}
use Rattle.plan_commands.specs.Verdicts.{HasValidPlan, IsPlanFault}

-- ---- the plan

-- a valid plan, of this delay, which it states, stands behind such a front
abbrev pub HasPlanBehind : Instance → Front → List ℕ → Table → ℕ → Type 0
HasPlanBehind i front.Plan rest plan d = HasValidPlan i rest plan d
HasPlanBehind i front.Headed rest plan d = HasValidPlan i rest plan d
HasPlanBehind i front.Bare rest plan d = ⊥
HasPlanBehind i front.NoPlan rest plan d = ⊥

-- the printed text has this valid plan of the instance
pub record HasPrintedPlan (i : Instance) (bytes : List ℕ) (plan : Table) (d : ℕ) : Type 0 where
  pub begun : Front
  pub rest : List ℕ
  pub begins : BeginsWith bytes begun rest
  pub is : HasPlanBehind i begun rest plan d

-- the bytes of an instance, and of a printed text with a valid plan of it
pub record IsPrinted (instance plan : List ℕ) (v : Verified) : Type 0 where
  pub has_instance : HasInstance instance v.instance
  pub has_plan : HasPrintedPlan v.instance plan v.plan v.delay

-- ---- why there is none

-- an error of a plan's text behind one line more
abbrev pub error_behind_line : PlanTextError → PlanTextError
error_behind_line (At line fault) = At (line + 1) fault
error_behind_line OutOfMemory = OutOfMemory

-- a fault of what stands behind such a front: lines are counted from the first of all
abbrev pub told_behind : Front → Fault → Fault
told_behind front.Headed (PlanText error) = PlanText (error_behind_line error)
told_behind begun fault = fault

-- a fault of the plan behind such a front
pub record IsPlanFaultBehind (i : Instance) (begun : Front) (rest : List ℕ) (fault : Fault) : Type 0 where
  pub own : Fault
  pub refused : IsPlanFault i rest own
  pub told : fault ≡ told_behind begun own

-- what is wrong behind a line that says that no plan was found: that none is there, or that anything is
abbrev pub bare_fault : List ℕ → LineFault
bare_fault [] = EarlyEnd
bare_fault (byte ∷ rest) = Trailing

-- why no valid plan stands behind such a front: the fault of the plan, or that none is printed
abbrev pub LacksPlanBehind : Instance → Front → List ℕ → Fault → Type 0
LacksPlanBehind i front.Plan rest fault = IsPlanFaultBehind i front.Plan rest fault
LacksPlanBehind i front.Headed rest fault = IsPlanFaultBehind i front.Headed rest fault
LacksPlanBehind i front.Bare rest fault = (length rest ≤ PLAN_LIMIT) × (fault ≡ PlanText (At 2 (bare_fault rest)))
LacksPlanBehind i front.NoPlan rest fault = fault ≡ PlanText (At 1 Form)

-- the printed text has no plan, and this is its fault
pub record LacksPrintedPlan (i : Instance) (bytes : List ℕ) (fault : Fault) : Type 0 where
  pub begun : Front
  pub rest : List ℕ
  pub begins : BeginsWith bytes begun rest
  pub refused : LacksPlanBehind i begun rest fault

-- ---- why bytes are refused

-- the bytes of a printed text, at most: a plan's, and those of the longest line in front of one
abbrev pub printed_limit : ℕ
printed_limit = PLAN_LIMIT + longest_answer_line

-- more than a plan's limit stands behind the front of the bytes
abbrev pub IsTooLong : List ℕ → Type 0
IsTooLong bytes = (begun : Front) (rest : List ℕ) → BeginsWith bytes begun rest → PLAN_LIMIT < length rest

-- the instance is stated, and what is printed for it is at this fault
pub record IsRefusedFor (IsAtFault : Instance → List ℕ → Fault → Type 0) (instance plan : List ℕ) (fault : Fault) : Type 0 where
  pub problem : Instance
  pub has_instance : HasInstance instance problem
  pub refused : IsAtFault problem plan fault

-- why the bytes of an instance and of a printed text are refused: for the instance, or else for the text, where that is at a fault
abbrev pub IsRefusedAs : (Instance → List ℕ → Fault → Type 0) → List ℕ → List ℕ → Fault → Type 0
IsRefusedAs IsAtFault instance plan (InstanceText error) = IsInstanceFault instance (InstanceText error)
IsRefusedAs IsAtFault instance plan Memory = Unit {0}
IsRefusedAs IsAtFault instance plan (Unread source.Instance) = Unit {0}
IsRefusedAs IsAtFault instance plan (Unread source.Plan) = StatesSome instance
IsRefusedAs IsAtFault instance plan (TooLong source.Instance) = INSTANCE_LIMIT < length instance
IsRefusedAs IsAtFault instance plan (TooLong source.Plan) = StatesSome instance × IsTooLong plan
IsRefusedAs IsAtFault instance plan (PlanText error) = IsRefusedFor IsAtFault instance plan (PlanText error)
IsRefusedAs IsAtFault instance plan (Plan fault) = IsRefusedFor IsAtFault instance plan (Plan fault)
IsRefusedAs IsAtFault instance plan (StatedDelay d) = IsRefusedFor IsAtFault instance plan (StatedDelay d)
IsRefusedAs IsAtFault instance plan _ = ⊥

-- why the bytes of an instance and of a printed text give no valid plan
abbrev pub IsUnprinted : List ℕ → List ℕ → Fault → Type 0
IsUnprinted instance plan fault = IsRefusedAs LacksPrintedPlan instance plan fault

-- ---- steps on the way

-- the bytes in a plan's place are at that fault, or are too many
abbrev pub IsAtFaultOrLong : (Instance → List ℕ → Fault → Type 0) → Instance → List ℕ → Fault → Type 0
IsAtFaultOrLong IsAtFault i bytes fault = IsAtFault i bytes fault ⊎ ((fault ≡ TooLong source.Plan) × IsTooLong bytes)

-- the printed text for the instance has the plan that was verified
pub record IsPrintedFor (i : Instance) (bytes : List ℕ) (v : Verified) : Type 0 where
  pub of : v.instance ≡ i
  pub has_plan : HasPrintedPlan i bytes v.plan v.delay

-- there is a number for the line behind
abbrev pub HasLineBehind : PlanTextError → Type 0
HasLineBehind (At line fault) = line + 1 < 2 ^ 32
HasLineBehind OutOfMemory = Unit {0}

-- the same of a fault
abbrev pub CanBeBehind : Fault → Type 0
CanBeBehind (PlanText error) = HasLineBehind error
CanBeBehind _ = Unit {0}
