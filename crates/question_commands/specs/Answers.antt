-- What `why` answers of the bytes of an instance, and what it writes, line by line as it is known.
use Rattle.std.specs.Prelude.{◌≡◌, ◌⊎◌, ℕ, List, [], Bool, true, false, Option, None, Some, IfSome, IsSome}
use Rattle.std.specs.Global.{Vec}
use Rattle.std.specs.Io.KnownBytes.{Appends, Keeps}
use Rattle.ttp_model.specs.Instance.{Instance}
use Rattle.certificate.specs.Cert.{Cert}
use Rattle.certificate.specs.Spelling.{SpellsCert}
use Rattle.plan_questions.specs.outcome.Options.{Options}
use Rattle.instance_variants.specs.Only.{only}
use Rattle.instance_variants.specs.declared.kept.constraints.Constraints.{Constraints}
use Rattle.plan_questions.specs.Conflicts.{AreMarked, IsConflict, IsFirstAnswer}
use Rattle.plan_questions.specs.declared.conflicts.first.FirstAnswer.{FirstAnswer}
use Rattle.plan_questions.specs.declared.conflicts.first.FirstAnswer.TheVariants as first
use Rattle.plan_questions.specs.LateAnswers.{IsLateness}
use Rattle.plan_questions.specs.declared.conflicts.needs.Need.{Need}
use Rattle.plan_questions.specs.declared.late.answer.Lateness.{Lateness}
use Rattle.command_streams.specs.declared.ending.Sink.TheVariants as sink
use Rattle.command_streams.specs.declared.ending.Fault.{Fault}
use Rattle.command_streams.specs.declared.ending.Fault.TheVariants.{Memory, Search, Unwritten}
use Rattle.command_streams.specs.declared.ending.End.{End}
use Rattle.command_streams.specs.declared.ending.End.TheVariants.{Absent, Done, Refused, Stopped}
use Rattle.command_streams.specs.Instances.{HasInstance, IsInstanceFault}
use Rattle.command_streams.specs.Streams.{AppendsPart}
use Rattle.command_streams.specs.Writing.{IsNothing, IsTextOf}
use Rattle.question_commands.specs.declared.why_texts.Wanted.{Wanted}
use Rattle.question_commands.specs.declared.why_texts.FileTexts.{FileTexts}
use Rattle.question_commands.specs.Words.{Lines, lines_text, plan_text, unknown_text}

-- ---- what is told

-- how late all has to end is told where it is asked for alone, and behind what is told of each constraint that is kept
abbrev pub IsLateInPlace : Bool → Option (List Need) → Option Lateness → Type 0
IsLateInPlace asked others None = Unit {0}
IsLateInPlace true (Some needs) (Some late) = Unit {0}
IsLateInPlace _ _ (Some late) = ⊥

-- lines are true: the constraints that are kept leave no plan, as the certificate shows, and these of them are needed; and so is what is told
-- behind them, as far as it is
pub record AreTrue (i : Instance) (options : Options) (asked : Bool) (K : Constraints) (cert : Cert) (lines : Lines) : Type 0 where
  pub conflict : IsConflict i options K cert lines.needed
  pub others : IfSome lines.others (AreMarked i options K lines.needed)
  pub late : IfSome lines.late (IsLateness i options)
  pub place : IsLateInPlace asked lines.others lines.late

-- it is told just where it is asked for
abbrev pub IsAskedFor : Bool → Option Lateness → Type 0
IsAskedFor true late = IsSome late
IsAskedFor false late = late ≡ None

-- nothing is left to tell
pub record AreAll (asked : Bool) (lines : Lines) : Type 0 where
  pub others : IsSome lines.others
  pub late : IsAskedFor asked lines.late

-- ---- what is written beside the lines

-- what is written to the certificate's file where it is wanted; of `why` it is the certificate that the instance by the constraints that are kept
-- has no plan
abbrev pub IsCertificateText : Bool → Cert → List ℕ → Type 0
IsCertificateText true cert text = SpellsCert text cert
IsCertificateText false cert text = text ≡ []

-- what is written to the other file: a text that states that instance, where the one that was made reads back as it
abbrev pub IsReducedText : Bool → Instance → Constraints → Option (Vec ℕ) → Type 0
IsReducedText true i K text = IsTextOf (only i K) text
IsReducedText false i K text = IsNothing text

-- the texts of both
pub record AreFilesOf (wanted : Wanted) (i : Instance) (K : Constraints) (cert : Cert) (files : FileTexts) : Type 0 where
  pub certificate : IsCertificateText wanted.certificate cert files.certificate.items
  pub reduced : IsReducedText wanted.reduced i K files.reduced

-- the instance is written, where a text of it reads back
abbrev pub IsReducedWritten : Option (Vec ℕ) → Option (List ℕ) → Option (List ℕ) → Type 0
IsReducedWritten None before after = ⊥
IsReducedWritten (Some text) before after = Appends before after text.items

-- it is in part; where no text of it does, nothing is
abbrev pub IsReducedCut : Option (Vec ℕ) → Option (List ℕ) → Option (List ℕ) → Type 0
IsReducedCut None before after = Keeps before after
IsReducedCut (Some text) before after = AppendsPart before after text.items

-- both are written, the certificate first; where its writer fails nothing is written of the instance
abbrev pub AreFilesWritten : FileTexts → (from to before after : Option (List ℕ)) → End → Type 0
AreFilesWritten files from to before after Absent = Appends from to files.certificate.items × IsReducedWritten files.reduced before after
AreFilesWritten files from to before after (Refused (Unwritten sink.Certificate)) = AppendsPart from to files.certificate.items × Keeps before after
AreFilesWritten files from to before after (Refused (Unwritten sink.Reduced)) = Appends from to files.certificate.items × IsReducedCut files.reduced before after
AreFilesWritten files from to before after end = ⊥

-- ---- how it ends

-- the text of a first answer that isn't a conflict, and the end at which it is told
abbrev pub first_text : FirstAnswer → List ℕ
first_text (first.Plan ticks plan) = plan_text ticks
first_text (first.None conflict) = []
first_text first.Unknown = unknown_text

abbrev pub IsPlainEnd : FirstAnswer → End → Type 0
IsPlainEnd (first.Plan ticks plan) end = end ≡ Done
IsPlainEnd (first.None conflict) end = ⊥
IsPlainEnd first.Unknown end = end ≡ Stopped

-- memory or a thread was refused
abbrev pub IsSearchFault : Fault → Type 0
IsSearchFault Memory = Unit {0}
IsSearchFault (Search fault) = Unit {0}
IsSearchFault _ = ⊥

-- lines are written as a whole where memory or a thread was refused, and in part where their writer failed
abbrev pub AreCut : Fault → List ℕ → Option (List ℕ) → Option (List ℕ) → Type 0
AreCut Memory text old new = Appends old new text
AreCut (Search fault) text old new = Appends old new text
AreCut (Unwritten sink.Out) text old new = AppendsPart old new text
AreCut _ text old new = ⊥

-- That there is no plan is told in lines, or another answer in one text. The certificate's file held `from`, the other one `before`, and the
-- answer's `old`.
module _ (i : Instance) (options : Options) (wanted : Wanted) (from to before after old new : Option (List ℕ)) where
  -- all lines are written, and behind them the two files
  pub record AreToldAll (end : End) : Type 0 where
    pub kept : Constraints
    pub cert : Cert
    pub lines : Lines
    pub true_lines : AreTrue i options wanted.late kept cert lines
    pub all : AreAll wanted.late lines
    pub written : Appends old new (lines_text i lines)
    pub files : FileTexts
    pub texts : AreFilesOf wanted i kept cert files
    pub beside : AreFilesWritten files from to before after end

  -- a fault came before that: the lines that were known are written, and no file is
  pub record AreToldUntil (end : End) : Type 0 where
    pub kept : Constraints
    pub cert : Cert
    pub lines : Lines
    pub true_lines : AreTrue i options wanted.late kept cert lines
    pub fault : Fault
    pub ends : end ≡ Refused fault
    pub cut : AreCut fault (lines_text i lines) old new
    pub certificate : Keeps from to
    pub reduced : Keeps before after

  -- a plan is told, or that nothing is known; or the writer failed
  pub record IsToldAtOnce (end : End) : Type 0 where
    pub answer : FirstAnswer
    pub is : IsFirstAnswer i options answer
    pub ends : (IsPlainEnd answer end × Appends old new (first_text answer)) ⊎ ((end ≡ Refused (Unwritten sink.Out)) × AppendsPart old new (first_text answer))
    pub certificate : Keeps from to
    pub reduced : Keeps before after

  -- nothing is told
  pub record IsNothingTold (end : End) : Type 0 where
    pub fault : Fault
    pub lacking : IsSearchFault fault
    pub ends : end ≡ Refused fault
    pub answer : Keeps old new
    pub certificate : Keeps from to
    pub reduced : Keeps before after

  abbrev pub IsToldOf : End → Type 0
  IsToldOf end = AreToldAll end ⊎ (AreToldUntil end ⊎ (IsToldAtOnce end ⊎ IsNothingTold end))

-- what is told of the instance that the bytes state
pub record IsToldAnswer (bytes : List ℕ) (options : Options) (wanted : Wanted) (from to before after old new : Option (List ℕ)) (end : End) : Type 0 where
  pub problem : Instance
  pub has_instance : HasInstance bytes problem
  pub told : IsToldOf problem options wanted from to before after old new end

-- they state none, or weren't read: nothing is written
pub record IsUntold (bytes : List ℕ) (from to before after old new : Option (List ℕ)) (end : End) : Type 0 where
  pub fault : Fault
  pub lacking : IsInstanceFault bytes fault
  pub ends : end ≡ Refused fault
  pub certificate : Keeps from to
  pub reduced : Keeps before after
  pub answer : Keeps old new

-- what `why` answers, and what it writes
abbrev pub IsWhyAnswer : List ℕ → Options → Wanted → (from to before after old new : Option (List ℕ)) → End → Type 0
IsWhyAnswer bytes options wanted from to before after old new end =
    IsToldAnswer bytes options wanted from to before after old new end ⊎ IsUntold bytes from to before after old new end
