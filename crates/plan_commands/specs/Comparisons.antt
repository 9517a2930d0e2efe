-- What `compare` answers of the bytes of two instances and their plans, and what it writes.
use Rattle.std.specs.Prelude.{◌≡◌, ℕ, List, Bool, true, false, Option}
use Rattle.std.specs.Io.KnownBytes.{Appends, Keeps}
use Rattle.command_streams.specs.declared.ending.Sink.TheVariants.{Out}
use Rattle.command_streams.specs.declared.ending.Release.{Release}
use Rattle.command_streams.specs.declared.ending.Release.TheVariants.{New, Old}
use Rattle.command_streams.specs.declared.ending.End.{End}
use Rattle.command_streams.specs.declared.ending.End.TheVariants.{Different, Done, Refused, RefusedOf}
use Rattle.command_streams.specs.declared.ending.Fault.{Fault}
use Rattle.command_streams.specs.declared.ending.Fault.TheVariants.{Memory, Unwritten}
use Rattle.command_streams.specs.Streams.{AppendsPart}
use Rattle.command_streams.specs.Outcomes.{IsWritten}
use Rattle.plan_commands.specs.declared.verdict.Verified.{Verified}
use Rattle.plan_commands.specs.Printed.{IsPrinted, IsUnprinted}
use Rattle.plan_changes.specs.Planned.{Planned}
use Rattle.plan_changes.specs.Changes.{IsUnchanged, changes_text}

-- the bytes of an instance and of a printed plan
pub record Texts : Type 0 where
  pub instance : List ℕ
  pub plan : List ℕ

-- they are those of an instance and of a valid plan of it that states its own delay
abbrev pub SayVerified : Texts → Verified → Type 0
SayVerified texts v = IsPrinted texts.instance texts.plan v

-- what is compared of these
abbrev pub planned_of : Verified → Planned
planned_of v = record { instance = v.instance; plan = v.plan }

-- both releases are verified
pub record AreVerified (old new : Texts) : Type 0 where
  pub before : Verified
  pub says_before : SayVerified old before
  pub after : Verified
  pub says_after : SayVerified new after

-- what is told of two releases, both of which are verified, and of which this holds
pub record IsComparison (Holds : Planned → Planned → Type 0) (old new : Texts) (text : List ℕ) : Type 0 where
  pub both : AreVerified old new
  pub told : text ≡ changes_text (planned_of both.before) (planned_of both.after)
  pub holds : Holds (planned_of both.before) (planned_of both.after)

-- something is different
abbrev pub IsChanged : Planned → Planned → Type 0
IsChanged old new = ¬ IsUnchanged old new

-- whether something is or not
abbrev pub IsEither : Planned → Planned → Type 0
IsEither old new = Unit {0}

-- a write failed: a prefix of what is told was written
pub record IsCutOff (old new : Texts) (before after : Option (List ℕ)) : Type 0 where
  pub text : List ℕ
  pub is : IsComparison IsEither old new text
  pub part : AppendsPart before after text

-- the old release is verified, and the new one is refused
pub record IsNewRefused (old new : Texts) (fault : Fault) : Type 0 where
  pub verified : Verified
  pub says : SayVerified old verified
  pub refused : IsUnprinted new.instance new.plan fault

-- why nothing is told: for the old release, or else for the new one
abbrev pub IsReleaseRefused : Texts → Texts → Release → Fault → Type 0
IsReleaseRefused old new Old fault = IsUnprinted old.instance old.plan fault
IsReleaseRefused old new New fault = IsNewRefused old new fault

-- what `compare` answers of the bytes of the old release and of the new one, and what it writes
abbrev pub IsCompareAnswer : Texts → Texts → Option (List ℕ) → Option (List ℕ) → End → Type 0
IsCompareAnswer old new before after Done = IsWritten (IsComparison IsUnchanged old new) before after
IsCompareAnswer old new before after Different = IsWritten (IsComparison IsChanged old new) before after
IsCompareAnswer old new before after (Refused (Unwritten Out)) = IsCutOff old new before after
IsCompareAnswer old new before after (Refused Memory) = AreVerified old new × Keeps before after
IsCompareAnswer old new before after (RefusedOf release fault) = IsReleaseRefused old new release fault × Keeps before after
IsCompareAnswer old new before after _ = ⊥

-- what holds of a release and its fault, where one is refused
abbrev pub IfReleaseRefused : End → (Release → Fault → Type 0) → Type 0
IfReleaseRefused (RefusedOf release fault) Says = Says release fault
IfReleaseRefused _ Says = Unit {0}

-- how the writing of a text ends, of which it is known whether nothing is different
abbrev pub IsWritingOf : List ℕ → Bool → Option (List ℕ) → Option (List ℕ) → End → Type 0
IsWritingOf text unchanged before after Done = (unchanged ≡ true) × Appends before after text
IsWritingOf text unchanged before after Different = (unchanged ≡ false) × Appends before after text
IsWritingOf text unchanged before after (Refused (Unwritten Out)) = AppendsPart before after text
IsWritingOf text unchanged before after _ = ⊥

-- how the telling of two plans ends: their text is written, or a prefix of it, or memory was refused
abbrev pub IsTelling : Planned → Planned → Option (List ℕ) → Option (List ℕ) → End → Type 0
IsTelling old new before after Done = IsUnchanged old new × Appends before after (changes_text old new)
IsTelling old new before after Different = IsChanged old new × Appends before after (changes_text old new)
IsTelling old new before after (Refused (Unwritten Out)) = AppendsPart before after (changes_text old new)
IsTelling old new before after (Refused Memory) = Keeps before after
IsTelling old new before after _ = ⊥
