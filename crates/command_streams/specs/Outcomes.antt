-- What a command answers at its end, and what it has written then: its text, a prefix of it, or nothing.
use Rattle.std.specs.Prelude.{ℕ, List, Option}
use Rattle.std.specs.Io.KnownBytes.{Appends, Keeps}
use Rattle.command_streams.specs.declared.ending.Sink.TheVariants.{Out}
use Rattle.command_streams.specs.declared.ending.Fault.{Fault}
use Rattle.command_streams.specs.declared.ending.Fault.TheVariants.{Memory, Unwritten}
use Rattle.command_streams.specs.declared.ending.End.{End}
use Rattle.command_streams.specs.declared.ending.End.TheVariants.{Done, Different, Absent, Stopped, Refused, RefusedOf}
use Rattle.command_streams.specs.Endings.{IsNotOfTexts}
use Rattle.command_streams.specs.Streams.{AppendsPart}

-- what a fault says, where a command is refused
abbrev pub IfRefused : End → (Fault → Type 0) → Type 0
IfRefused (Refused fault) Says = Says fault
IfRefused _ Says = Unit {0}

-- how the writing of a text ends: the writer gained it, or it failed and gained a prefix
abbrev pub IsWriting : List ℕ → Option (List ℕ) → Option (List ℕ) → End → Type 0
IsWriting text old new Done = Appends old new text
IsWriting text old new (Refused (Unwritten Out)) = AppendsPart old new text
IsWriting text old new _ = ⊥

-- the same of a text that is made first: where memory is refused nothing is written
abbrev pub IsWritingUnlessMemory : List ℕ → Option (List ℕ) → Option (List ℕ) → End → Type 0
IsWritingUnlessMemory text old new (Refused Memory) = Keeps old new
IsWritingUnlessMemory text old new end = IsWriting text old new end

-- a text is written, unless a reader or a writer failed or memory was refused
abbrev pub IsWritingUnlessStopped : List ℕ → Option (List ℕ) → Option (List ℕ) → End → Type 0
IsWritingUnlessStopped text old new Done = Appends old new text
IsWritingUnlessStopped text old new (Refused fault) = IsNotOfTexts fault
IsWritingUnlessStopped text old new _ = ⊥

-- the writer gained a text of these
pub record IsWritten (IsText : List ℕ → Type 0) (old new : Option (List ℕ)) : Type 0 where
  pub text : List ℕ
  pub is : IsText text
  pub appends : Appends old new text

-- the writer gained a prefix of a text that is written at some end
pub record IsCutShort (IsTextAt : End → List ℕ → Type 0) (old new : Option (List ℕ)) : Type 0 where
  pub at : End
  pub text : List ℕ
  pub is : IsTextAt at text
  pub part : AppendsPart old new text

-- The whole answer: the text of that end, or a prefix of one where the writer failed, or why there is none, and then
-- nothing is written. It is that of a command which compares no two.
abbrev pub IsCommandAnswer : (End → List ℕ → Type 0) → (Fault → Type 0) → Option (List ℕ) → Option (List ℕ) → End → Type 0
IsCommandAnswer IsTextAt IsRefusedBy old new Done = IsWritten (IsTextAt Done) old new
IsCommandAnswer IsTextAt IsRefusedBy old new Different = IsWritten (IsTextAt Different) old new
IsCommandAnswer IsTextAt IsRefusedBy old new Absent = IsWritten (IsTextAt Absent) old new
IsCommandAnswer IsTextAt IsRefusedBy old new Stopped = IsWritten (IsTextAt Stopped) old new
IsCommandAnswer IsTextAt IsRefusedBy old new (Refused (Unwritten Out)) = IsCutShort IsTextAt old new
IsCommandAnswer IsTextAt IsRefusedBy old new (Refused fault) = IsRefusedBy fault × Keeps old new
IsCommandAnswer IsTextAt IsRefusedBy old new (RefusedOf release fault) = ⊥

-- the texts of a command that writes one when it is done, and has no other end without a fault
abbrev pub OnDone : (List ℕ → Type 0) → End → List ℕ → Type 0
OnDone IsText Done text = IsText text
OnDone IsText _ text = ⊥
