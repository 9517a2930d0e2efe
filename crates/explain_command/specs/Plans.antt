-- What is told of a plan's bytes, for an instance.
use Rattle.std.specs.Prelude.{◌≡◌, ◌≢◌, ◌⊎◌, ℕ, ◌+◌, List, ◌++◌, Err, codes}
use Rattle.ttp_model.specs.declared.fault.PlanFault.{PlanFault}
use Rattle.ttp_model.specs.declared.plan.Plan.{Plan}
use Rattle.ttp_model.specs.Instance.{Instance}
use Rattle.ttp_model.specs.Plans.{IsValid}
use Rattle.ttp_model.specs.Delays.{delay}
use Rattle.ttp_model.specs.Faults.{IsFirstFault}
use Rattle.plan_format.specs.declared.fault.LineFault.{LineFault}
use Rattle.plan_format.specs.declared.fault.PlanTextError.TheVariants.{At}
use Rattle.plan_format.specs.Spelling.{SpellsPlan}
use Rattle.plan_format.specs.Reading.{plan_at}
use Rattle.plan_reasons.specs.declared.plan_lines.PlanChain.{PlanChain}
use Rattle.plan_reasons.specs.PlanLines.{IsChainReason}
use Rattle.plan_reasons.specs.declared.cycles.Cycle.{Cycle}
use Rattle.plan_reasons.specs.declared.delays.OtherDelay.{OtherDelay}
use Rattle.plan_reasons.specs.declared.lines.LineReason.{LineReason}
use Rattle.plan_reasons.specs.declared.reason.PlanReason.{PlanReason}
use Rattle.plan_reasons.specs.Cycles.{IsCycle}
use Rattle.plan_reasons.specs.Delays.{IsOtherDelay}
use Rattle.plan_reasons.specs.Lines.{IsLineReason}
use Rattle.plan_reasons.specs.Reasons.{IsReasonOf}
use Rattle.sentences.specs.Shown.{Gains, IsShown}
use Rattle.plan_commands.specs.Verdicts.{valid_line}
use Rattle.plan_commands.specs.declared.front.Front.{Front}
use Rattle.plan_commands.specs.declared.front.Front.TheVariants as front
use Rattle.plan_commands.specs.Fronts.{BeginsWith, no_plan_text}
use Rattle.plan_commands.specs.Printed.{IsTooLong, bare_fault}
use Rattle.command_streams.specs.declared.ending.Source.TheVariants as source
use Rattle.command_streams.specs.declared.ending.Fault.{Fault}
use Rattle.command_streams.specs.declared.ending.Fault.TheVariants as fault
use Rattle.explain_command.specs.Mistaken.{first_line_words}
use Rattle.explain_command.specs.Telling.{line_of}

-- a plan that breaks a rule: the line of its first fault, and sentences on the reason
pub record TellsBroken (i : Instance) (plan : Plan) (text : List ℕ) : Type 0 where
  pub broken : PlanFault
  pub first : IsFirstFault i plan broken
  pub reason : PlanReason
  pub is : IsReasonOf i plan broken reason
  pub told : Gains IsShown (line_of (fault.Plan broken)) text

-- a valid plan that states another delay than its own
pub record TellsMisstated (i : Instance) (plan : Plan) (stated : ℕ) (text : List ℕ) : Type 0 where
  pub valid : IsValid i plan
  pub other : delay i plan ≢ stated
  pub reason : OtherDelay
  pub is : IsOtherDelay i plan stated reason
  pub told : Gains IsShown (line_of (fault.StatedDelay (delay i plan))) text

-- a valid plan that states its own: why it ends when it does, and how long its cycle is
pub record TellsValid (i : Instance) (plan : Plan) (stated : ℕ) (text : List ℕ) : Type 0 where
  pub valid : IsValid i plan
  pub own : delay i plan ≡ stated
  pub reason : PlanChain
  pub is : IsChainReason i plan reason
  pub cycle : Cycle
  pub is_cycle : IsCycle i plan cycle
  pub told : Gains IsShown (valid_line stated) text

-- a plan with the delay that it states
abbrev pub TellsPlan : Instance → Plan → ℕ → List ℕ → Type 0
TellsPlan i plan stated text = TellsBroken i plan text ⊎ (TellsMisstated i plan stated text ⊎ TellsValid i plan stated text)

-- bytes that spell a plan with a stated delay
pub record TellsSpelled (i : Instance) (bytes text : List ℕ) : Type 0 where
  pub plan : Plan
  pub stated : ℕ
  pub spelled : SpellsPlan i bytes plan stated
  pub tells : TellsPlan i plan stated text

-- bytes that spell none, behind so many lines: the line at fault, the form that it has to have, and what the text is like
pub record TellsUnspelled (i : Instance) (before : ℕ) (bytes text : List ℕ) : Type 0 where
  pub line : ℕ
  pub wrong : LineFault
  pub first : plan_at i bytes ≡ Err (At line wrong)
  pub reason : LineReason
  pub is : IsLineReason i bytes before line wrong reason
  pub words : List ℕ
  pub are : Gains IsShown (line_of (fault.PlanText (At (before + line) wrong))) words
  pub told : text ≡ words ++ first_line_words bytes (before + line)

-- the bytes of a plan's text, behind so many lines
abbrev pub TellsPlanText : Instance → ℕ → List ℕ → List ℕ → Type 0
TellsPlanText i before bytes text = TellsUnspelled i before bytes text ⊎ TellsSpelled i bytes text

-- a line that says that no plan was found, with what stands behind it
abbrev pub bare_text : List ℕ → List ℕ
bare_text rest = line_of (fault.PlanText (At 2 (bare_fault rest))) ++ codes "The first line says that no plan was found.\n"

-- what stands behind such a front
abbrev pub TellsPrinted : Instance → Front → List ℕ → List ℕ → Type 0
TellsPrinted i front.Plan rest text = TellsPlanText i 0 rest text
TellsPrinted i front.Headed rest text = TellsPlanText i 1 rest text
TellsPrinted i front.Bare rest text = text ≡ bare_text rest
TellsPrinted i front.NoPlan rest text = TellsPlanText i 0 no_plan_text text

-- the bytes of a printed plan
pub record TellsPlanBytes (i : Instance) (bytes text : List ℕ) : Type 0 where
  pub begun : Front
  pub rest : List ℕ
  pub begins : BeginsWith bytes begun rest
  pub tells : TellsPrinted i begun rest text

-- why nothing is told of them
abbrev pub IsPlanUnread : List ℕ → Fault → Type 0
IsPlanUnread bytes fault.Memory = Unit {0}
IsPlanUnread bytes (fault.Unread source.Plan) = Unit {0}
IsPlanUnread bytes (fault.TooLong source.Plan) = IsTooLong bytes
IsPlanUnread bytes _ = ⊥
