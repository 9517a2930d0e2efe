-- What the bytes of an instance and words that name processes are answered by searches, and what `limit` writes of the answer.
use Rattle.std.specs.Prelude.{◌≡◌, ◌⊎◌, ℕ, ◌<◌, List, [], ◌∷◌, ◌++◌, length, codes, decimal, Bool, true, false, Option, None, Some}
use Rattle.std.specs.Global.{Vec}
use Rattle.std.specs.Io.KnownBytes.{Keeps}
use Rattle.ttp_model.specs.declared.plan.Plan.{Plan}
use Rattle.ttp_model.specs.Instance.{Instance}
use Rattle.ttp_model.specs.Plans.{IsValid}
use Rattle.ttp_model.specs.Delays.{delay}
use Rattle.plan_format.specs.Spelling.{SpellsPlan}
use Rattle.plan_questions.specs.outcome.Options.{Options}
use Rattle.plan_questions.specs.declared.limits.limit.EndLimit.{EndLimit}
use Rattle.plan_questions.specs.declared.limits.limit.EndLimit.TheVariants.{Least, Reached, Between, Unknown, Infeasible}
use Rattle.plan_questions.specs.EndAnswers.{cert_of, searched, IsEndLimit}
use Rattle.command_streams.specs.declared.ending.Source.TheVariants as source
use Rattle.command_streams.specs.declared.ending.Fault.{Fault}
use Rattle.command_streams.specs.declared.ending.Fault.TheVariants.{InstanceText, Memory, NoSuchProcess, Search, TooLong, Unread}
use Rattle.command_streams.specs.declared.ending.End.{End}
use Rattle.command_streams.specs.declared.ending.End.TheVariants.{Done, Absent, Refused, Stopped}
use Rattle.command_streams.specs.declared.limits.TheConstants.{INSTANCE_LIMIT}
use Rattle.command_streams.specs.Instances.{HasInstance, IsInstanceFault}
use Rattle.command_streams.specs.declared.texts.Texts.{Texts}
use Rattle.command_streams.specs.Writing.{IsNothing, IsTextOf, IsWritingOf}
use Rattle.question_commands.specs.declared.limit_texts.Beside.{Beside}
use Rattle.question_commands.specs.declared.limits.Limited.{Limited}
use Rattle.question_commands.specs.Answers.{IsCertificateText}
use Rattle.question_commands.specs.Names.{AreNamed, IsNameFault}

-- the plan of an answer, where it has one
abbrev pub plan_of : EndLimit → Option Plan
plan_of (Least end plan cert) = Some plan
plan_of (Reached end plan cert) = Some plan
plan_of (Between low high plan cert) = Some plan
plan_of (Unknown low cert) = None
plan_of (Infeasible cert) = None

-- what an answer says in words
abbrev pub first_line : EndLimit → List ℕ
first_line (Least end plan cert) = codes "limit " ++ decimal end
first_line (Reached end plan cert) = codes "limit " ++ decimal end
first_line (Between low high plan cert) = codes "between " ++ (decimal low ++ (codes " " ++ decimal high))
first_line (Unknown low cert) = codes "between " ++ (decimal low ++ codes " none")
first_line (Infeasible cert) = codes "none"

-- the line of that
abbrev pub line_of : EndLimit → List ℕ
line_of limit = first_line limit ++ 10 ∷ []

-- a line, and then the text of the plan, where there is one
abbrev pub IsTextBehind : Instance → List ℕ → Option Plan → List ℕ → Type 0
IsTextBehind i line None text = text ≡ line
IsTextBehind i line (Some plan) text = (spelled : List ℕ) × SpellsPlan i spelled plan (delay i plan) × (text ≡ line ++ spelled)

-- what is written of an answer
abbrev pub IsLimitText : Instance → EndLimit → List ℕ → Type 0
IsLimitText i limit text = IsTextBehind i (line_of limit) (plan_of limit) text

-- the end at which it is told: a search that was stopped leaves less known than was asked
abbrev pub end_told : EndLimit → End
end_told (Least end plan cert) = Done
end_told (Reached end plan cert) = Stopped
end_told (Between low high plan cert) = Stopped
end_told (Unknown low cert) = Stopped
end_told (Infeasible cert) = Absent

-- a plan, where there is one, is valid
abbrev pub HasValidPlan : Instance → Option Plan → Type 0
HasValidPlan i None = Unit {0}
HasValidPlan i (Some plan) = IsValid i plan

-- what is written to the other file: a text that states the instance of that search, where the one that was made reads back as it
abbrev pub IsSearchedText : Bool → Instance → List ℕ → EndLimit → Option (Vec ℕ) → Type 0
IsSearchedText true i ps limit text = IsTextOf (searched i ps limit) text
IsSearchedText false i ps limit text = IsNothing text

-- the texts that tell an answer to how early these processes can end; the certificate is that of the last search
pub record AreTextsOf (beside : Beside) (i : Instance) (ps : List ℕ) (limit : EndLimit) (texts : Texts) : Type 0 where
  pub certificate : IsCertificateText beside.certificate (cert_of limit) texts.certificate.items
  pub reduced : IsSearchedText beside.reduced i ps limit texts.reduced
  pub answer : IsLimitText i limit texts.answer.items

-- an answer to how early these processes can end, with its texts
pub record IsLimitBy (i : Instance) (ps : List ℕ) (options : Options) (beside : Beside) (limited : Limited) : Type 0 where
  pub is : IsEndLimit i ps options limited.limit
  pub texts : AreTextsOf beside i ps limited.limit limited.texts

-- why there is none: there was no memory, or no thread for a search
abbrev pub IsUnsearched : Fault → Type 0
IsUnsearched Memory = Unit {0}
IsUnsearched (Search fault) = Unit {0}
IsUnsearched _ = ⊥

-- the words name processes, and this is an answer to how early these can end
pub record IsLimitedOf (i : Instance) (words : List (List ℕ)) (options : Options) (beside : Beside) (limited : Limited) : Type 0 where
  pub processes : List ℕ
  pub named : AreNamed i words processes
  pub is : IsLimitBy i processes options beside limited

-- the words name processes
pub record NameSome (i : Instance) (words : List (List ℕ)) : Type 0 where
  pub processes : List ℕ
  pub named : AreNamed i words processes

-- why there is no answer: for a word, or there was no memory or no thread for a search
abbrev pub IsNoLimitOf : Instance → List (List ℕ) → Fault → Type 0
IsNoLimitOf i words Memory = Unit {0}
IsNoLimitOf i words (NoSuchProcess k) = IsNameFault i words (NoSuchProcess k)
IsNoLimitOf i words (Search fault) = NameSome i words
IsNoLimitOf i words _ = ⊥

-- the bytes state an instance, and this is an answer to it and the words
pub record IsLimited (bytes : List ℕ) (words : List (List ℕ)) (options : Options) (beside : Beside) (limited : Limited) : Type 0 where
  pub problem : Instance
  pub has_instance : HasInstance bytes problem
  pub is : IsLimitedOf problem words options beside limited

-- the bytes state an instance, and there is no answer to it and the words
pub record IsUnanswered (bytes : List ℕ) (words : List (List ℕ)) (fault : Fault) : Type 0 where
  pub problem : Instance
  pub has_instance : HasInstance bytes problem
  pub refused : IsNoLimitOf problem words fault

-- why bytes and words have no answer: for the instance, or else for the words or a search
abbrev pub IsUnlimited : List ℕ → List (List ℕ) → Fault → Type 0
IsUnlimited bytes words Memory = Unit {0}
IsUnlimited bytes words (Unread source.Instance) = Unit {0}
IsUnlimited bytes words (TooLong source.Instance) = INSTANCE_LIMIT < length bytes
IsUnlimited bytes words (InstanceText error) = IsInstanceFault bytes (InstanceText error)
IsUnlimited bytes words (NoSuchProcess k) = IsUnanswered bytes words (NoSuchProcess k)
IsUnlimited bytes words (Search fault) = IsUnanswered bytes words (Search fault)
IsUnlimited bytes words _ = ⊥

-- an answer is told
pub record IsToldLimit (bytes : List ℕ) (words : List (List ℕ)) (options : Options) (beside : Beside) (from to before after old new : Option (List ℕ)) (end : End) : Type 0 where
  pub limited : Limited
  pub is : IsLimited bytes words options beside limited
  pub writing : IsWritingOf limited.texts (end_told limited.limit) from to before after old new end

-- nothing is told, for this fault, and nothing is written
pub record IsUntold (bytes : List ℕ) (words : List (List ℕ)) (from to before after old new : Option (List ℕ)) (end : End) : Type 0 where
  pub fault : Fault
  pub lacking : IsUnlimited bytes words fault
  pub ends : end ≡ Refused fault
  pub certificate : Keeps from to
  pub reduced : Keeps before after
  pub answer : Keeps old new

-- what `limit` answers of the bytes of an instance and of words, and what it writes
abbrev pub IsLimitAnswer : List ℕ → List (List ℕ) → Options → Beside → (from to before after old new : Option (List ℕ)) → End → Type 0
IsLimitAnswer bytes words options beside from to before after old new end =
    IsToldLimit bytes words options beside from to before after old new end ⊎ IsUntold bytes words from to before after old new end
