-- How lines are told one after another, and what a fault leaves of them. Private contracts alone cite this.
use Rattle.std.specs.Prelude.{◌≡◌, ◌⊎◌, ℕ, List, Bool, true, Option, Result, Ok, Err}
use Rattle.std.specs.Io.KnownBytes.{Appends, Keeps}
use Rattle.ttp_model.specs.Instance.{Instance}
use Rattle.certificate.specs.Cert.{Cert}
use Rattle.certificate.specs.Versions.{Allows}
use Rattle.plan_questions.specs.outcome.Options.{Options}
use Rattle.instance_variants.specs.declared.kept.constraints.Constraint.{Constraint}
use Rattle.instance_variants.specs.declared.kept.constraints.Constraints.{Constraints}
use Rattle.plan_questions.specs.Conflicts.{AreMarked, IsConflict, IsFirstAnswer}
use Rattle.plan_questions.specs.declared.conflicts.conflict.Conflict.{Conflict}
use Rattle.plan_questions.specs.declared.conflicts.first.FirstAnswer.{FirstAnswer}
use Rattle.plan_questions.specs.declared.conflicts.needs.Need.{Need}
use Rattle.plan_questions.specs.LateAnswers.{IsLateness}
use Rattle.plan_questions.specs.declared.late.answer.Lateness.{Lateness}
use Rattle.command_streams.specs.declared.ending.Sink.TheVariants as sink
use Rattle.command_streams.specs.declared.ending.Fault.{Fault}
use Rattle.command_streams.specs.declared.ending.Fault.TheVariants.{Memory, Search, Unwritten}
use Rattle.command_streams.specs.declared.ending.End.{End}
use Rattle.command_streams.specs.declared.ending.End.TheVariants.{Refused}
use Rattle.command_streams.specs.Streams.{AppendsPart}
use Rattle.question_commands.specs.declared.why.Told.{Told}
use Rattle.question_commands.specs.declared.why.Told.TheVariants.{Plain, Narrowed}
use Rattle.question_commands.specs.declared.why_texts.Wanted.{Wanted}
use Rattle.question_commands.specs.declared.why_texts.FileTexts.{FileTexts}
use Rattle.question_commands.specs.Words.{Lines, late_line, lines_behind, lines_text, need_lines, others_text}
use Rattle.question_commands.specs.Answers.{AreAll, AreCut, AreFilesOf, AreFilesWritten, AreTrue, IsPlainEnd, IsSearchFault, first_text}

-- the writer failed in a text
abbrev pub IsWriterFault : List ℕ → (old new : Option (List ℕ)) → Fault → Type 0
IsWriterFault text old new fault = (fault ≡ Unwritten sink.Out) × AppendsPart old new text

-- a text isn't made for want of memory, and nothing is written; or its writer failed
abbrev pub IsUnsaid : List ℕ → (old new : Option (List ℕ)) → Fault → Type 0
IsUnsaid text old new Memory = Keeps old new
IsUnsaid text old new (Unwritten sink.Out) = AppendsPart old new text
IsUnsaid text old new _ = ⊥

-- the same of the lines of constraints that aren't known to be needed
abbrev pub AreOthersUnsaid : Instance → Options → Conflict → (old new : Option (List ℕ)) → Fault → Type 0
AreOthersUnsaid i options conflict old new Memory = Keeps old new
AreOthersUnsaid i options conflict old new (Unwritten sink.Out) =
    (needs : List Need) × AreMarked i options conflict.kept conflict.needed.items needs × AppendsPart old new (others_text i needs)
AreOthersUnsaid i options conflict old new _ = ⊥

-- and of the line that tells how late all has to end
abbrev pub IsLateUnsaid : Instance → Options → Bool → (old new : Option (List ℕ)) → Fault → Type 0
IsLateUnsaid i options asked old new Memory = Keeps old new
IsLateUnsaid i options asked old new (Search fault) = Keeps old new
IsLateUnsaid i options asked old new (Unwritten sink.Out) =
    (lateness : Lateness) × IsLateness i options lateness × (asked ≡ true) × AppendsPart old new (late_line lateness)
IsLateUnsaid i options asked old new _ = ⊥

-- the lines of constraints that are needed, until a fault came
pub record AreNeedsCut (i : Instance) (options : Options) (old new : Option (List ℕ)) (fault : Fault) : Type 0 where
  pub kept : Constraints
  pub cert : Cert
  pub needed : List Constraint
  pub conflict : IsConflict i options kept cert needed
  pub cut : AreCut fault (need_lines i needed) old new

-- all lines behind those
pub record AreLinesBehind (i : Instance) (options : Options) (late : Bool) (conflict : Conflict) (old new : Option (List ℕ)) : Type 0 where
  pub lines : Lines
  pub needed : lines.needed ≡ conflict.needed.items
  pub true_lines : AreTrue i options late conflict.kept conflict.cert lines
  pub all : AreAll late lines
  pub written : Appends old new (lines_behind i lines)

-- until a fault came
pub record AreLinesCutBehind (i : Instance) (options : Options) (late : Bool) (conflict : Conflict) (old new : Option (List ℕ)) (fault : Fault) : Type 0 where
  pub lines : Lines
  pub needed : lines.needed ≡ conflict.needed.items
  pub true_lines : AreTrue i options late conflict.kept conflict.cert lines
  pub cut : AreCut fault (lines_behind i lines) old new

-- all lines
pub record AreLinesTold (i : Instance) (options : Options) (late : Bool) (conflict : Conflict) (old new : Option (List ℕ)) : Type 0 where
  pub lines : Lines
  pub true_lines : AreTrue i options late conflict.kept conflict.cert lines
  pub all : AreAll late lines
  pub written : Appends old new (lines_text i lines)

-- until a fault came
pub record AreLinesCut (i : Instance) (options : Options) (late : Bool) (old new : Option (List ℕ)) (fault : Fault) : Type 0 where
  pub kept : Constraints
  pub cert : Cert
  pub lines : Lines
  pub true_lines : AreTrue i options late kept cert lines
  pub cut : AreCut fault (lines_text i lines) old new

-- a first answer that is told in one text, and its end
pub record IsPlain (i : Instance) (options : Options) (old new : Option (List ℕ)) (end : End) : Type 0 where
  pub answer : FirstAnswer
  pub is : IsFirstAnswer i options answer
  pub ends : IsPlainEnd answer end
  pub written : Appends old new (first_text answer)

-- in part
pub record IsPlainCut (i : Instance) (options : Options) (old new : Option (List ℕ)) (fault : Fault) : Type 0 where
  pub answer : FirstAnswer
  pub is : IsFirstAnswer i options answer
  pub part : IsWriterFault (first_text answer) old new fault

-- memory or a thread was refused before anything was told
pub record IsNothing (old new : Option (List ℕ)) (fault : Fault) : Type 0 where
  pub lacking : IsSearchFault fault
  pub keeps : Keeps old new

-- what was told
abbrev pub HasTold : Instance → Options → Bool → (old new : Option (List ℕ)) → Told → Type 0
HasTold i options late old new (Plain end) = IsPlain i options old new end
HasTold i options late old new (Narrowed conflict) = AreLinesTold i options late conflict old new

-- and what a fault left of it
abbrev pub IsBrokenOff : Instance → Options → Bool → (old new : Option (List ℕ)) → Fault → Type 0
IsBrokenOff i options late old new fault = AreLinesCut i options late old new fault ⊎ (IsPlainCut i options old new fault ⊎ IsNothing old new fault)

-- the certificate of a conflict has a text
abbrev pub IsPrintable : Result Told Fault → Type 0
IsPrintable (Ok (Plain end)) = Unit {0}
IsPrintable (Ok (Narrowed conflict)) = Allows conflict.cert.version conflict.cert.tree
IsPrintable (Err fault) = Unit {0}

-- nothing is written beside what was told, whose end is the command's
pub record IsAlone (from to before after : Option (List ℕ)) (last end : End) : Type 0 where
  pub ends : end ≡ last
  pub certificate : Keeps from to
  pub reduced : Keeps before after

-- the files are
pub record AreBeside (wanted : Wanted) (i : Instance) (conflict : Conflict) (from to before after : Option (List ℕ)) (end : End) : Type 0 where
  pub files : FileTexts
  pub texts : AreFilesOf wanted i conflict.kept conflict.cert files
  pub written : AreFilesWritten files from to before after end

-- the files are written, or memory for them is refused
abbrev pub IsWrittenBehind : Wanted → Instance → Conflict → (from to before after : Option (List ℕ)) → End → Type 0
IsWrittenBehind wanted i conflict from to before after end =
    AreBeside wanted i conflict from to before after end ⊎ IsAlone from to before after (Refused Memory) end

-- how the command ends once that was told
abbrev pub IsFinished : Wanted → Instance → Result Told Fault → (from to before after : Option (List ℕ)) → End → Type 0
IsFinished wanted i (Ok (Plain last)) from to before after end = IsAlone from to before after last end
IsFinished wanted i (Ok (Narrowed conflict)) from to before after end = IsWrittenBehind wanted i conflict from to before after end
IsFinished wanted i (Err fault) from to before after end = IsAlone from to before after (Refused fault) end
