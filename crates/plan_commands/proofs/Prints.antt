-- What is printed in a plan's place is at a fault of a plan, or is too long; and what readers give is refused as their texts are.
use Rattle.std.proofs.Common.{◌≡◌, ℕ, ◌+◌, ◌<◌, ◌≤◌, List, ◌∷◌, length, Option, None, Some, Result, Ok, Err, IfSome, MatchResult, arith, ap, sym, subst, inl, inr, length-append}
use Rattle.ttp_model.specs.declared.plan.Plan.{Plan as Table}
use Rattle.ttp_model.specs.Instance.{Instance}
use Rattle.ttp_model.specs.Delays.{delay}
use Rattle.ttp_model.specs.Rules.{IsInstance}
use Rattle.ttp_model.specs.declared.fault.PlanFault.{PlanFault}
use Rattle.plan_format.specs.declared.fault.PlanTextError.{PlanTextError}
use Rattle.plan_format.specs.declared.fault.PlanTextError.TheVariants.{At, OutOfMemory}
use Rattle.command_streams.specs.declared.ending.Source.TheVariants as source
use Rattle.command_streams.specs.declared.ending.Fault.{Fault}
use Rattle.command_streams.specs.declared.ending.Fault.TheVariants.{PlanText, Plan, StatedDelay}
use Rattle.command_streams.specs.declared.limits.TheConstants.{PLAN_LIMIT}
use Rattle.command_streams.specs.Streams.{IsReadFault}
use Rattle.command_streams.specs.Instances.{HasInstance, StatesSome}
use Rattle.plan_commands.specs.declared.front.Front.{Front}
use Rattle.plan_commands.specs.declared.front.Front.TheVariants as front
use Rattle.plan_commands.specs.declared.verdict.Verified.{Verified}
use Rattle.plan_commands.specs.Fronts.{BeginsAnswer, BeginsWith, longest_answer_line}
use Rattle.plan_commands.specs.Verdicts.{IsPlanFault}
use Rattle.plan_commands.specs.Printed.{CanBeBehind, HasLineBehind, HasPlanBehind, HasPrintedPlan, IsAtFaultOrLong, IsPlanFaultBehind, IsPrinted, IsPrintedFor, IsRefusedAs, IsTooLong, IsUnprinted, LacksPlanBehind, LacksPrintedPlan, printed_limit, told_behind}
use Rattle.command_streams.proofs.StatedOnce.{by_read_fault}
use Rattle.plan_commands.proofs.AnswerLines.{begins_once, line_length}
use Rattle.plan_commands.proofs.PlanLines.{line_behind}

-- the fault is one of a plan or of its text
abbrev pub IsOfPlan : Fault → Type 0
IsOfPlan (PlanText error) = Unit {0}
IsOfPlan (Plan fault) = Unit {0}
IsOfPlan (StatedDelay d) = Unit {0}
IsOfPlan _ = ⊥

-- ---- faults behind a front

-- what holds of each fault of a plan
pub by_kind : (Holds : Fault → Type 0) → ((error : PlanTextError) → Holds (PlanText error)) → ((fault : PlanFault) → Holds (Plan fault))
    → ((d : ℕ) → Holds (StatedDelay d)) → (fault : Fault) → IsOfPlan fault → Holds fault
by_kind Holds text broken misstated (PlanText error) is = text error
by_kind Holds text broken misstated (Plan fault) is = broken fault
by_kind Holds text broken misstated (StatedDelay d) is = misstated d
by_kind Holds text broken misstated fault is = absurd is

module _ (i : Instance) (text : List ℕ) where
  plan_kind : (fault : Fault) → IsPlanFault i text fault → IsOfPlan fault
  plan_kind (PlanText error) refused = tt
  plan_kind (Plan fault) refused = tt
  plan_kind (StatedDelay d) refused = tt
  plan_kind fault refused = refused

  text_can_be : IsInstance i → (error : PlanTextError) → IsPlanFault i text (PlanText error) → HasLineBehind error
  text_can_be w (At line fault) refused = line_behind i w text line fault refused.1
  text_can_be w OutOfMemory refused = tt

  pub can_be_behind : IsInstance i → (fault : Fault) → IsPlanFault i text fault → CanBeBehind fault
  can_be_behind w fault refused =
      by_kind (λ f. IsPlanFault i text f → CanBeBehind f) (text_can_be w) (λ _ _. tt) (λ _ _. tt) fault (plan_kind fault refused) refused

told_kind : (begun : Front) (fault : Fault) → IsOfPlan fault → IsOfPlan (told_behind begun fault)
told_kind front.Plan fault is = is
told_kind front.Headed fault is = by_kind (λ f. IsOfPlan (told_behind front.Headed f)) (λ _. tt) (λ _. tt) (λ _. tt) fault is
told_kind front.Bare fault is = is
told_kind front.NoPlan fault is = is

pub behind_kind : (i : Instance) (begun : Front) (rest : List ℕ) (fault : Fault) → IsPlanFaultBehind i begun rest fault → IsOfPlan fault
behind_kind i begun rest fault is = subst IsOfPlan (sym is.told) (told_kind begun is.own (plan_kind i rest is.own is.refused))

lacks_behind : (i : Instance) (begun : Front) (rest : List ℕ) (fault : Fault) → LacksPlanBehind i begun rest fault → IsOfPlan fault
lacks_behind i front.Plan rest fault is = behind_kind i front.Plan rest fault is
lacks_behind i front.Headed rest fault is = behind_kind i front.Headed rest fault is
lacks_behind i front.Bare rest fault is = subst IsOfPlan (sym is.1) tt
lacks_behind i front.NoPlan rest fault is = subst IsOfPlan (sym is) tt

lacks_kind : (i : Instance) (bytes : List ℕ) (fault : Fault) → LacksPrintedPlan i bytes fault → IsOfPlan fault
lacks_kind i bytes fault is = lacks_behind i is.begun is.rest fault is.refused

-- ---- more than a plan's limit

-- a line in front is short
behind_answer : (bytes : List ℕ) (begun : Front) (rest : List ℕ) → BeginsAnswer bytes begun rest → length bytes ≤ longest_answer_line + length rest
behind_answer bytes begun rest is =
    omega (arith, ap length is.bytes_are, length-append is.line (10 ∷ rest), line_length is.line begun is.is)

long_behind : (bytes : List ℕ) (begun : Front) (rest : List ℕ) → printed_limit < length bytes → BeginsWith bytes begun rest → PLAN_LIMIT < length rest
long_behind bytes front.Plan rest long is = omega (arith, long, ap length is.0)
long_behind bytes front.Headed rest long is = omega (arith, long, behind_answer bytes front.Headed rest is)
long_behind bytes front.Bare rest long is = omega (arith, long, behind_answer bytes front.Bare rest is)
long_behind bytes front.NoPlan rest long is = absurd (omega (arith, long, ap length is.0))

-- so more than a printed text may have is too long
pub long_text : (bytes : List ℕ) → printed_limit < length bytes → IsTooLong bytes
long_text bytes long = λ begun rest is. long_behind bytes begun rest long is

-- and what is too long behind its front is so behind any
pub too_long : (bytes : List ℕ) (begun : Front) (rest : List ℕ) → BeginsWith bytes begun rest → PLAN_LIMIT < length rest → IsTooLong bytes
too_long bytes begun rest begins long = λ other behind is.
    let same = begins_once bytes begun other rest behind begins is in
    subst (λ (text : List ℕ). PLAN_LIMIT < length text) same.1 long

-- ---- what readers give

module _ (IsAtFault : Instance → List ℕ → Fault → Type 0) where
  module _ (kind : (i : Instance) (bytes : List ℕ) (fault : Fault) → IsAtFault i bytes fault → IsOfPlan fault) (instance plan : List ℕ) (i : Instance)
      (has : HasInstance instance i) where
    refused_for : (fault : Fault) → IsOfPlan fault → IsAtFault i plan fault → IsRefusedAs IsAtFault instance plan fault
    refused_for fault is at =
        by_kind (λ f. IsAtFault i plan f → IsRefusedAs IsAtFault instance plan f)
        (λ _ here. record { problem = i; has_instance = has; refused = here })
        (λ _ here. record { problem = i; has_instance = has; refused = here })
        (λ _ here. record { problem = i; has_instance = has; refused = here }) fault is at

    pub refused_as : (fault : Fault) → IsAtFaultOrLong IsAtFault i plan fault → IsRefusedAs IsAtFault instance plan fault
    refused_as fault refused = elim refused [
      | inl at ↦ refused_for fault (kind i plan fault at) at
      | inr long ↦ subst (IsRefusedAs IsAtFault instance plan) (sym long.0) (record { problem = i; has_instance = has }, long.1)
    ]

  -- what is printed isn't read
  pub unread_printed : (a b : Option (List ℕ)) (i : Instance) (fault : Fault) → IfSome a (λ instance. HasInstance instance i)
      → IsReadFault source.Plan printed_limit b fault → IfSome a (λ instance. IfSome b (λ plan. IsRefusedAs IsAtFault instance plan fault))
  unread_printed None b i fault has is = tt
  unread_printed (Some instance) None i fault has is = tt
  unread_printed (Some instance) (Some plan) i fault has is =
      let states : StatesSome instance = record { problem = i; has_instance = has } in
      by_read_fault (IsRefusedAs IsAtFault instance plan) source.Plan printed_limit (Some plan) tt states (λ long. (states, long_text plan long)) fault is

-- the plan of a printed text has the delay that it states
delay_behind : (i : Instance) (begun : Front) (rest : List ℕ) (plan : Table) (d : ℕ) → HasPlanBehind i begun rest plan d → delay i plan ≡ d
delay_behind i front.Plan rest plan d is = is.has_delay
delay_behind i front.Headed rest plan d is = is.has_delay
delay_behind i front.Bare rest plan d is = absurd is
delay_behind i front.NoPlan rest plan d is = absurd is

pub delay_of_printed : (i : Instance) (bytes : List ℕ) (plan : Table) (d : ℕ) → HasPrintedPlan i bytes plan d → delay i plan ≡ d
delay_of_printed i bytes plan d has = delay_behind i has.begun has.rest plan d has.is

module _ (instance plan : List ℕ) (i : Instance) (has : HasInstance instance i) where
  printed_with : (result : Result Verified Fault) → MatchResult result (IsPrintedFor i plan) (IsAtFaultOrLong LacksPrintedPlan i plan)
      → MatchResult result (IsPrinted instance plan) (IsUnprinted instance plan)
  printed_with (Ok v) is = record { has_instance = rw is.of has; has_plan = rw is.of is.has_plan }
  printed_with (Err fault) is = refused_as LacksPrintedPlan lacks_kind instance plan i has fault is

pub printed_of_readers : (a b : Option (List ℕ)) (i : Instance) (bytes : List ℕ) (result : Result Verified Fault)
    → IfSome a (λ instance. HasInstance instance i) → IfSome b (λ plan. bytes ≡ plan)
    → MatchResult result (IsPrintedFor i bytes) (IsAtFaultOrLong LacksPrintedPlan i bytes)
    → IfSome a (λ instance. IfSome b (λ plan. MatchResult result (IsPrinted instance plan) (IsUnprinted instance plan)))
printed_of_readers None b i bytes result has is judged = tt
printed_of_readers (Some instance) None i bytes result has is judged = tt
printed_of_readers (Some instance) (Some plan) i bytes result has is judged = printed_with instance plan i has result (rw is at judged)
