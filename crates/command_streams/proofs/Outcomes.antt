-- A text that is written is a command's outcome and tells no fault of an instance, and a writer to which nothing is written keeps what it held.
use Rattle.std.proofs.Common.{ℕ, List, Option, None, Some, refl}
use Rattle.std.specs.Io.KnownBytes.{Keeps}
use Rattle.command_streams.specs.declared.ending.Sink.TheVariants as sink
use Rattle.command_streams.specs.declared.ending.Fault.{Fault}
use Rattle.command_streams.specs.declared.ending.Fault.TheVariants.{Memory, Unwritten}
use Rattle.command_streams.specs.declared.ending.End.{End}
use Rattle.command_streams.specs.declared.ending.End.TheVariants.{Done, Refused}
use Rattle.command_streams.specs.Instances.{IsOfInstance}
use Rattle.command_streams.specs.Outcomes.{IfRefused, IsCommandAnswer, IsWriting, IsWritingUnlessMemory, IsWritingUnlessStopped, OnDone}

pub keeps : (old : Option (List ℕ)) → Keeps old old
keeps None = tt
keeps (Some bytes) = refl

module _ (IsText : List ℕ → Type 0) (IsRefusedBy : Fault → Type 0) (text : List ℕ) (is : IsText text) (old new : Option (List ℕ)) where
  pub written_outcome : (end : End) → IsWriting text old new end → IsCommandAnswer (OnDone IsText) IsRefusedBy old new end
  written_outcome Done gains = record { text = text; is = is; appends = gains }
  written_outcome (Refused (Unwritten sink.Out)) part = record { at = Done; text = text; is = is; part = part }
  written_outcome end gains = absurd gains

  module _ (memory : IsRefusedBy Memory) where
    pub made_outcome : (end : End) → IsWritingUnlessMemory text old new end → IsCommandAnswer (OnDone IsText) IsRefusedBy old new end
    made_outcome Done gains = written_outcome Done gains
    made_outcome (Refused (Unwritten sink.Out)) part = written_outcome (Refused (Unwritten sink.Out)) part
    made_outcome (Refused Memory) keeps = (memory, keeps)
    made_outcome end gains = absurd gains

-- a text that is made and written is written unless something stops the command
module _ (text : List ℕ) (old new : Option (List ℕ)) where
  pub made_unless_stopped : (end : End) → IsWritingUnlessMemory text old new end → IsWritingUnlessStopped text old new end
  made_unless_stopped Done gains = gains
  made_unless_stopped (Refused (Unwritten sink.Out)) part = tt
  made_unless_stopped (Refused Memory) kept = refl
  made_unless_stopped end gains = absurd gains

-- what is told once an instance is read is no fault of it
module _ (text : List ℕ) (old new : Option (List ℕ)) (Holds : Type 0) where
  pub written_later : (end : End) → IsWritingUnlessMemory text old new end → IfRefused end (λ fault. IsOfInstance fault → Holds)
  written_later Done gains = tt
  written_later (Refused (Unwritten sink.Out)) part = λ is. absurd is
  written_later (Refused Memory) kept = λ is. absurd is
  written_later end gains = absurd gains

  pub ended_later : (end : End) → IsWriting text old new end → IfRefused end (λ fault. IsOfInstance fault → Holds)
  ended_later Done gains = tt
  ended_later (Refused (Unwritten sink.Out)) part = λ is. absurd is
  ended_later end gains = absurd gains
