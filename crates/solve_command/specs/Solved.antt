-- What the bytes of an instance, and of a plan to begin with, are answered by a search, and what `solve` writes of the answer.
use Rattle.std.specs.Prelude.{◌≡◌, ℕ, ◌<◌, ◌≤◌, List, [], ◌∷◌, ◌++◌, length, codes, decimal}
use Rattle.std.specs.Prelude.{Bool, true, false, Option, None, Some, IfSome}
use Rattle.ttp_model.specs.declared.plan.Plan.{Plan as Table}
use Rattle.ttp_model.specs.Instance.{Instance}
use Rattle.ttp_model.specs.Delays.{delay}
use Rattle.plan_format.specs.Spelling as plan_text
use Rattle.planner.specs.found.FoundPlan.{FoundPlan}
use Rattle.planner.specs.outcome.Options.{Options}
use Rattle.planner.specs.outcome.Outcome.{Outcome}
use Rattle.planner.specs.outcome.Outcome.TheVariants as answer
use Rattle.planner.specs.outcome.Why.{Why}
use Rattle.planner.specs.outcome.Why.TheVariants as why
use Rattle.planner.specs.Answers as answers
use Rattle.solve_command.specs.declared.solve.Enough.{Enough}
use Rattle.solve_command.specs.declared.solve.Solved.{Solved}
use Rattle.planner.specs.Searching.{limit_of}
use Rattle.solve_command.specs.Patience.{is_enough}
use Rattle.plan_commands.specs.declared.verdict.Verified.{Verified}
use Rattle.plan_commands.specs.Printed.{HasPrintedPlan, IsPrinted, IsUnprinted}
use Rattle.command_streams.specs.declared.ending.Source.TheVariants as source
use Rattle.command_streams.specs.declared.ending.SearchFault.TheVariants as search
use Rattle.command_streams.specs.declared.ending.Fault.{Fault}
use Rattle.command_streams.specs.declared.ending.Fault.TheVariants.{InstanceText, Memory, Search, TooLong, Unread}
use Rattle.command_streams.specs.declared.ending.End.{End}
use Rattle.command_streams.specs.declared.limits.TheConstants.{INSTANCE_LIMIT}
use Rattle.command_streams.specs.Instances.{HasInstance, IsInstanceFault, StatesSome}
use Rattle.solve_command.specs.Telling.{IsToldOf}

-- the word for why a search stopped; one that was called off ended for its plan, where that is short enough, and else for its time
abbrev pub why_word : Why → Bool → List ℕ
why_word why.Budget enough = codes "budget"
why_word why.Memory enough = codes "memory"
why_word why.CalledOff true = codes "until"
why_word why.CalledOff false = codes "time"
why_word why.Gap enough = codes "gap"
why_word why.Part enough = codes "part"

-- the delay of the best plan found, or that none was
abbrev pub best_word : Option ℕ → List ℕ
best_word None = codes "none"
best_word (Some ticks) = decimal ticks

-- the line of a search that stopped: why, the bound, and the best plan's delay; a plan of at most `until` was asked for, if any
abbrev pub stopped_line : Option ℕ → Why → ℕ → Option ℕ → List ℕ
stopped_line until why low best =
    codes "stopped " ++ (why_word why (is_enough until best) ++ (codes " " ++ (decimal low ++ (codes " " ++ (best_word best ++ 10 ∷ [])))))

-- the text of a search that stopped: its line, and then the best plan found, where one was
abbrev pub IsStoppedText : Option ℕ → Instance → Why → ℕ → Option FoundPlan → List ℕ → Type 0
IsStoppedText until i why low None text = text ≡ stopped_line until why low None
IsStoppedText until i why low (Some best) text =
    (plan : List ℕ) × plan_text.SpellsPlan i plan best.plan best.delay × (text ≡ stopped_line until why low (Some best.delay) ++ plan)

-- what is written of each answer
abbrev pub IsAnswerText : Option ℕ → Instance → Outcome → List ℕ → Type 0
IsAnswerText until i (answer.Optimal plan ticks cert) text = plan_text.SpellsPlan i text plan ticks
IsAnswerText until i (answer.Infeasible cert) text = text ≡ codes "none\n"
IsAnswerText until i (answer.Stopped why low best cert) text = IsStoppedText until i why low best text

-- an answer to this instance with its text; it has a plan that takes no longer than the one that the search began with, where there is one, and says that
-- it was called off only where the one may end it who follows it
pub record IsSearchOf (i : Instance) (start : Option Table) (options : Options) (enough : Enough) (Ends : Type 0) (solved : Solved) : Type 0 where
  pub of : solved.instance ≡ i
  pub is_answer : answers.IsOutcome i options enough.gap solved.outcome
  pub shows : answers.Shows i solved.outcome
  pub tells : IsAnswerText enough.until i solved.outcome solved.text.items
  pub no_later : IfSome start (λ plan. limit_of i (answers.best_of solved.outcome) ≤ delay i plan)
  pub called_off : answers.IsCalledOff solved.outcome → Ends

-- why there is none: there was no memory, or no thread
abbrev pub IsNoSearch : Fault → Type 0
IsNoSearch Memory = Unit {0}
IsNoSearch (Search fault) = Unit {0}
IsNoSearch _ = ⊥

-- the bytes state the instance, and this is an answer to it with its text
pub record IsSolved (bytes : List ℕ) (options : Options) (enough : Enough) (Ends : Type 0) (solved : Solved) : Type 0 where
  pub has_instance : HasInstance bytes solved.instance
  pub is_answer : answers.IsOutcome solved.instance options enough.gap solved.outcome
  pub shows : answers.Shows solved.instance solved.outcome
  pub tells : IsAnswerText enough.until solved.instance solved.outcome solved.text.items
  pub called_off : answers.IsCalledOff solved.outcome → Ends

-- why bytes have no answer: they state no instance, or there was no memory or no thread for a search
abbrev pub IsUnsolved : List ℕ → Fault → Type 0
IsUnsolved bytes Memory = Unit {0}
IsUnsolved bytes (Unread source.Instance) = Unit {0}
IsUnsolved bytes (TooLong source.Instance) = INSTANCE_LIMIT < length bytes
IsUnsolved bytes (InstanceText error) = IsInstanceFault bytes (InstanceText error)
IsUnsolved bytes (Search search.Memory) = StatesSome bytes
IsUnsolved bytes (Search search.Thread) = StatesSome bytes
IsUnsolved bytes _ = ⊥

-- the same of a search that begins with the valid plan that other bytes have printed: the answer has a plan that takes no longer
pub record IsSolvedFrom (bytes plan : List ℕ) (options : Options) (enough : Enough) (Ends : Type 0) (solved : Solved) : Type 0 where
  pub is : IsSolved bytes options enough Ends solved
  pub first : Table
  pub ticks : ℕ
  pub begins : HasPrintedPlan solved.instance plan first ticks
  pub no_later : limit_of solved.instance (answers.best_of solved.outcome) ≤ ticks

-- the bytes of an instance, and of a printed plan that is valid for it and states its own delay
pub record AreVerified (instance plan : List ℕ) : Type 0 where
  pub verified : Verified
  pub is : IsPrinted instance plan verified

-- why these have no answer: they are refused, or there was no memory or no thread for a search
abbrev pub IsUnsolvedFrom : List ℕ → List ℕ → Fault → Type 0
IsUnsolvedFrom instance plan (Search fault) = AreVerified instance plan
IsUnsolvedFrom instance plan fault = IsUnprinted instance plan fault

-- what `solve` answers of the bytes of an instance, and what it writes; `enough` says which plan is short enough, and `Ends`
-- whether the one who follows the search may end it
unfoldable pub IsSolveAnswer : (bytes : List ℕ) (options : Options) (enough : Enough) (Ends : Type 0) (wanted : Bool) (from to old new : Option (List ℕ)) → End → Type 0
IsSolveAnswer bytes options enough Ends = IsToldOf (IsSolved bytes options enough Ends) (IsUnsolved bytes)

-- what it answers where it begins with the plan that other bytes have printed
unfoldable pub IsStartedAnswer : (bytes plan : List ℕ) (options : Options) (enough : Enough) (Ends : Type 0) (wanted : Bool) (from to old new : Option (List ℕ)) → End → Type 0
IsStartedAnswer bytes plan options enough Ends = IsToldOf (IsSolvedFrom bytes plan options enough Ends) (IsUnsolvedFrom bytes plan)
