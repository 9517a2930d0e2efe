-- An answer has what its texts ask for, and what was found is told once it is written.
use Rattle.std.proofs.Common.{◌≡◌, ℕ, List, Option, None, Some, Result, Ok, Err, IfSome, MatchResult, inl, refl}
use Rattle.ttp_model.specs.Instance.{Instance}
use Rattle.ttp_model.specs.Rules.{IsInstance}
use Rattle.certificate.specs.Versions.{Allows}
use Rattle.plan_questions.specs.outcome.Options.{Options}
use Rattle.plan_questions.specs.declared.limits.limit.EndLimit.{EndLimit}
use Rattle.plan_questions.specs.declared.limits.limit.EndLimit.TheVariants.{Least, Reached, Between, Unknown, Infeasible}
use Rattle.plan_questions.specs.EndAnswers.{cert_of, tick_of, IsEndLimit}
use Rattle.plan_questions.specs.Cut.{CanEndBy}
use Rattle.plan_questions.specs.Ends.{AreThere}
use Rattle.plan_questions.proofs.Texts as limits
use Rattle.command_streams.specs.declared.ending.Fault.{Fault}
use Rattle.command_streams.specs.declared.ending.Fault.TheVariants.{Memory, NoSuchProcess, Search}
use Rattle.command_streams.specs.Instances.{HasInstance}
use Rattle.command_streams.specs.declared.ending.End.{End}
use Rattle.command_streams.specs.Writing.{IsWritingOf}
use Rattle.question_commands.specs.declared.limits.Limited.{Limited}
use Rattle.question_commands.specs.declared.limit_texts.Beside.{Beside}
use Rattle.question_commands.specs.Names.{AreNamed, IsNameFault}
use Rattle.question_commands.specs.Limited.{end_told, plan_of, HasValidPlan, IsLimitAnswer, IsLimitBy, IsLimited, IsLimitedOf}
use Rattle.question_commands.specs.Limited.{IsNoLimitOf, IsUnlimited, IsUnsearched}

module _ (i : Instance) (ps : List ℕ) (options : Options) (limit : EndLimit) (is : IsEndLimit i ps options limit) where
  -- the certificate has a text
  pub printable : IsInstance i → AreThere i ps → Allows (cert_of limit).version (cert_of limit).tree
  printable w are = limits.limit_allows i ps options w are limit is

  can_by : IsInstance i → AreThere i ps → (tick : Option ℕ) → tick_of limit ≡ tick → IfSome tick (CanEndBy i ps)
  can_by w are None at = tt
  can_by w are (Some d) at = limits.can_end i ps options w are limit d is at

  -- each of the processes can end by when it had to
  pub can_end : IsInstance i → AreThere i ps → IfSome (tick_of limit) (CanEndBy i ps)
  can_end w are = can_by w are (tick_of limit) refl

-- the plan of an answer is valid
pub plan_valid : (i : Instance) (ps : List ℕ) (options : Options) (limit : EndLimit) → IsEndLimit i ps options limit → HasValidPlan i (plan_of limit)
plan_valid i ps options (Least end plan cert) is = is.plan_ends.valid
plan_valid i ps options (Reached end plan cert) is = is.plan_ends.valid
plan_valid i ps options (Between low high plan cert) is = is.plan_ends.valid
plan_valid i ps options (Unknown low cert) is = tt
plan_valid i ps options (Infeasible cert) is = tt

-- words that name no processes have no answer
pub unnamed : (i : Instance) (words : List (List ℕ)) (fault : Fault) → IsNameFault i words fault → IsNoLimitOf i words fault
unnamed i words Memory is = tt
unnamed i words (NoSuchProcess k) is = is
unnamed i words fault is = absurd is

-- nor have those whose search has none
unsearched : (i : Instance) (words : List (List ℕ)) (ps : List ℕ) → AreNamed i words ps → (fault : Fault) → IsUnsearched fault → IsNoLimitOf i words fault
unsearched i words ps named Memory is = tt
unsearched i words ps named (Search fault) is = record { processes = ps; named = named }
unsearched i words ps named fault is = absurd is

-- an answer to how early the processes that words name can end, or none
pub limited_by : (i : Instance) (words : List (List ℕ)) (ps : List ℕ) (options : Options) (beside : Beside) → AreNamed i words ps
    → (answer : Result Limited Fault) → MatchResult answer (IsLimitBy i ps options beside) IsUnsearched
    → MatchResult answer (IsLimitedOf i words options beside) (IsNoLimitOf i words)
limited_by i words ps options beside named (Ok limited) is = record { processes = ps; named = named; is = is }
limited_by i words ps options beside named (Err fault) is = unsearched i words ps named fault is

-- none to the instance that bytes state and these words
unlimited : (bytes : List ℕ) (words : List (List ℕ)) (i : Instance) (fault : Fault)
    → HasInstance bytes i → IsNoLimitOf i words fault → IsUnlimited bytes words fault
unlimited bytes words i Memory has is = tt
unlimited bytes words i (NoSuchProcess k) has is = record { problem = i; has_instance = has; refused = is }
unlimited bytes words i (Search fault) has is = record { problem = i; has_instance = has; refused = is }
unlimited bytes words i fault has is = absurd is

-- an answer to the instance that a reader's bytes state, or none
pub judged_of_bytes : (a : Option (List ℕ)) (words : List (List ℕ)) (options : Options) (beside : Beside) (i : Instance) (answer : Result Limited Fault)
    → IfSome a (λ bytes. HasInstance bytes i) → MatchResult answer (IsLimitedOf i words options beside) (IsNoLimitOf i words)
    → IfSome a (λ bytes. MatchResult answer (IsLimited bytes words options beside) (IsUnlimited bytes words))
judged_of_bytes None words options beside i answer has is = tt
judged_of_bytes (Some bytes) words options beside i (Ok limited) has is = record { problem = i; has_instance = has; is = is }
judged_of_bytes (Some bytes) words options beside i (Err fault) has is = unlimited bytes words i fault has is

-- what was found of a reader's bytes is the answer, once it is written
pub told_limit : (known : Option (List ℕ)) (words : List (List ℕ)) (options : Options) (beside : Beside) (limited : Limited)
    (from to before after old new : Option (List ℕ)) (end : End) → IfSome known (λ bytes. IsLimited bytes words options beside limited)
    → IsWritingOf limited.texts (end_told limited.limit) from to before after old new end
    → IfSome known (λ bytes. IsLimitAnswer bytes words options beside from to before after old new end)
told_limit None words options beside limited from to before after old new end is writing = tt
told_limit (Some bytes) words options beside limited from to before after old new end is writing =
    inl (record { limited = limited; is = is; writing = writing })
