-- An answer to how much longer processes may run has what its texts ask for, and what was found is told once it is written.
use Rattle.std.proofs.Common.{◌≡◌, ℕ, ◌≤◌, List, length, Option, None, Some, Result, Ok, Err, IfSome, MatchResult, All, arith, inl, inr}
use Rattle.std.proofs.lemmas.Bool.{cases_lt}
use Rattle.ttp_model.specs.declared.plan.Plan.{Plan}
use Rattle.ttp_model.specs.Instance.{Instance}
use Rattle.ttp_model.specs.Rules.{IsInstance, IsProcess}
use Rattle.certificate.specs.Cert.{Cert}
use Rattle.plan_questions.specs.outcome.Options.{Options}
use Rattle.plan_questions.specs.declared.margins.answer.Margin.{Margin}
use Rattle.plan_questions.specs.declared.margins.answer.Margin.TheVariants.{Greatest, Window, Between, Unknown, Never}
use Rattle.plan_questions.specs.Ends.{AreThere}
use Rattle.plan_questions.specs.MarginAnswers.{IsGreatest, IsMargin}
use Rattle.plan_questions.proofs.MarginCuts.{margin_allows}
use Rattle.instance_variants.specs.declared.scale.Scale.{Scale}
use Rattle.plan_questions.specs.Within.{within}
use Rattle.instance_variants.specs.Longer.{allowed_of, most_number, room, window_margin}
use Rattle.instance_variants.proofs.Least.{least-le-top}
use Rattle.instance_variants.proofs.LongerRuns.{none_beyond}
use Rattle.instance_variants.proofs.WithinPlans.{within_own}
use Rattle.command_streams.specs.declared.ending.Fault.{Fault}
use Rattle.command_streams.specs.declared.ending.Fault.TheVariants.{Memory, NoSuchRunner, Search}
use Rattle.command_streams.specs.declared.ending.End.{End}
use Rattle.command_streams.specs.declared.texts.Texts.{Texts}
use Rattle.command_streams.specs.Instances.{HasInstance}
use Rattle.command_streams.specs.Writing.{IsWritingOf}
use Rattle.question_commands.specs.declared.margins.Margined.{Margined}
use Rattle.question_commands.specs.declared.margins.Terms.{Terms}
use Rattle.question_commands.specs.Limited.{HasValidPlan, IsUnsearched}
use Rattle.question_commands.specs.Margins.{AreMeant, AreTextsOf, HasProcess, IsMarginAnswer, IsMarginBy, IsMarginOf, IsMargined, IsNoMarginOf, IsPrintable, IsUnmargined, IsUnmeant, end_told, plan_of}

module _ (base : Instance) (ps : List ℕ) (scale : Scale) (options : Options) (w : IsInstance base) (are : AreThere base ps) (some : 1 ≤ length ps) where
  -- where a plan stays valid each process has room, which is little
  small : (margin : ℕ) (plan : Plan) (cert : Cert) → IsGreatest base ps scale options margin plan cert → margin ≤ most_number
  small margin plan cert is = elim (cases_lt (window_margin base ps scale) margin) [
    | inl beyond ↦ absurd (none_beyond base ps scale w margin are some beyond plan is.own.stays)
    | inr inside ↦ omega (arith, inside, least-le-top (allowed_of base ps scale (room base) most_number) most_number (length base.processes))
  ]

  -- the instance that was searched has a text, and so has the certificate
  pub printable : (margin : Margin) → IsMargin base ps scale options margin → IsPrintable base ps scale margin
  printable (Greatest margin plan cert) is = record {
    small = small margin plan cert is;
    rules = is.lawful;
    allows = margin_allows base ps scale options margin plan cert is;
  }
  printable (Window margin process plan) is = tt
  printable (Between low high plan) is = tt
  printable (Unknown high) is = tt
  printable Never is = tt

module _ (i base : Instance) (terms : Terms) (same : base ≡ within i terms.within) where
  -- the process of which it speaks is there
  pub process_there : (ps : List ℕ) (options : Options) (margin : Margin) → IsMargin base ps terms.scale options margin → HasProcess i margin
  process_there ps options (Greatest margin plan cert) is = tt
  process_there ps options (Window margin process plan) is =
      let full = is.full.within in
      (rw same at full)
  process_there ps options (Between low high plan) is = tt
  process_there ps options (Unknown high) is = tt
  process_there ps options Never is = tt

  -- its plan is valid
  pub plan_valid : (ps : List ℕ) (options : Options) (margin : Margin) → IsMargin base ps terms.scale options margin → HasValidPlan i (plan_of margin)
  plan_valid ps options (Greatest margin plan cert) is = within_own i terms.within plan (rw same at is.own.valid)
  plan_valid ps options (Window margin process plan) is = within_own i terms.within plan (rw same at is.own.valid)
  plan_valid ps options (Between low high plan) is = within_own i terms.within plan (rw same at is.own.valid)
  plan_valid ps options (Unknown high) is = tt
  plan_valid ps options Never is = tt

  pub same_processes : (ps : List ℕ) → All (IsProcess i) ps → All (IsProcess base) ps
  same_processes ps are = rw same are

  pub margined_by : (ps : List ℕ) (options : Options) (margin : Margin) (texts : Texts) → IsMargin base ps terms.scale options margin
      → AreTextsOf terms.beside i base ps terms.scale margin texts → IsMarginBy i ps terms options (record { margin = margin; texts = texts })
  margined_by ps options margin texts is are = record { is = rw same at is; texts = rw same at are }

-- words that mean no processes have no answer
pub unmeant : (i : Instance) (words : List (List ℕ)) (fault : Fault) → IsUnmeant i words fault → IsNoMarginOf i words fault
unmeant i words Memory is = tt
unmeant i words (NoSuchRunner k) is = is
unmeant i words fault is = absurd is

-- nor have those whose search has none
unsearched : (i : Instance) (words : List (List ℕ)) (ps : List ℕ) → AreMeant i words ps → (fault : Fault) → IsUnsearched fault → IsNoMarginOf i words fault
unsearched i words ps meant Memory is = tt
unsearched i words ps meant (Search fault) is = record { processes = ps; meant = meant }
unsearched i words ps meant fault is = absurd is

-- an answer to how much longer the processes that words mean may run, or none
pub margin_by_words : (i : Instance) (words : List (List ℕ)) (ps : List ℕ) (terms : Terms) (options : Options) → AreMeant i words ps
    → (answer : Result Margined Fault) → MatchResult answer (IsMarginBy i ps terms options) IsUnsearched
    → MatchResult answer (IsMarginOf i words terms options) (IsNoMarginOf i words)
margin_by_words i words ps terms options meant (Ok margined) is = record { processes = ps; meant = meant; is = is }
margin_by_words i words ps terms options meant (Err fault) is = unsearched i words ps meant fault is

-- none to the instance that bytes state and these words
unmargined : (bytes : List ℕ) (words : List (List ℕ)) (i : Instance) (fault : Fault) → HasInstance bytes i → IsNoMarginOf i words fault
    → IsUnmargined bytes words fault
unmargined bytes words i Memory has is = tt
unmargined bytes words i (NoSuchRunner k) has is = record { problem = i; has_instance = has; refused = is }
unmargined bytes words i (Search fault) has is = record { problem = i; has_instance = has; refused = is }
unmargined bytes words i fault has is = absurd is

-- an answer to the instance that a reader's bytes state, or none
pub margin_of_bytes : (a : Option (List ℕ)) (words : List (List ℕ)) (terms : Terms) (options : Options) (i : Instance) (answer : Result Margined Fault)
    → IfSome a (λ bytes. HasInstance bytes i) → MatchResult answer (IsMarginOf i words terms options) (IsNoMarginOf i words)
    → IfSome a (λ bytes. MatchResult answer (IsMargined bytes words terms options) (IsUnmargined bytes words))
margin_of_bytes None words terms options i answer has is = tt
margin_of_bytes (Some bytes) words terms options i (Ok margined) has is = record { problem = i; has_instance = has; is = is }
margin_of_bytes (Some bytes) words terms options i (Err fault) has is = unmargined bytes words i fault has is

-- what was found of a reader's bytes is the answer, once it is written
pub told_margin : (known : Option (List ℕ)) (words : List (List ℕ)) (terms : Terms) (options : Options) (margined : Margined)
    (from to before after old new : Option (List ℕ)) (end : End) → IfSome known (λ bytes. IsMargined bytes words terms options margined)
    → IsWritingOf margined.texts (end_told margined.margin) from to before after old new end
    → IfSome known (λ bytes. IsMarginAnswer bytes words terms options from to before after old new end)
told_margin None words terms options margined from to before after old new end is writing = tt
told_margin (Some bytes) words terms options margined from to before after old new end is writing =
    inl (record { margined = margined; is = is; writing = writing })
