-- How a command ends that answers by one JSON object, beside how it would end with its text.
use Rattle.std.specs.Prelude.{◌≡◌, ◌⊎◌, ℕ, List, [], Option, Some}
use Rattle.std.specs.Io.KnownBytes.{Appends, Keeps}
use Rattle.sentences.specs.Shown.{IsShown}
use Rattle.command_streams.specs.declared.ending.Sink.TheVariants.{Out}
use Rattle.command_streams.specs.declared.ending.Fault.{Fault}
use Rattle.command_streams.specs.declared.ending.Fault.TheVariants as fault
use Rattle.command_streams.specs.declared.ending.End.{End}
use Rattle.command_streams.specs.declared.ending.End.TheVariants.{Refused, RefusedOf}
use Rattle.command_streams.specs.Streams.{AppendsPart}
use Rattle.json_answers.specs.declared.answers.ObjectFault.{ObjectFault}
use Rattle.json_answers.specs.declared.answers.ObjectFault.TheVariants.{Memory, Unwritten}

-- an object is written that a terminal shows
pub record IsWhole (old new : Option (List ℕ)) : Type 0 where
  pub json : List ℕ
  pub shown : IsShown json
  pub appends : Appends old new json

-- a prefix of it is
pub record IsCut (old new : Option (List ℕ)) : Type 0 where
  pub json : List ℕ
  pub shown : IsShown json
  pub part : AppendsPart old new json

-- what is written where it isn't as a whole
abbrev pub IsUnwritten : (old new : Option (List ℕ)) → ObjectFault → Type 0
IsUnwritten old new Memory = Keeps old new
IsUnwritten old new Unwritten = IsCut old new

-- it is written whole, and the end is that of the text
pub record IsTold {E : Type 0} (at : E) (old new : Option (List ℕ)) (end : E) : Type 0 where
  pub whole : IsWhole old new
  pub ends : end ≡ at

-- or it isn't, and the end is what that makes of it
pub record IsUntold {E : Type 0} (IsOr : ObjectFault → E → E → Type 0) (at : E) (old new : Option (List ℕ)) (end : E) : Type 0 where
  pub why : ObjectFault
  pub unwritten : IsUnwritten old new why
  pub ends : IsOr why at end

abbrev pub IsTelling : {E : Type 0} → (ObjectFault → E → E → Type 0) → E → (old new : Option (List ℕ)) → E → Type 0
IsTelling IsOr at old new end = IsTold at old new end ⊎ IsUntold IsOr at old new end

-- an object is told of what the same command answers by a text, which is kept in memory
pub record IsToldBy {E : Type 0} (in_memory : E → E) (IsOr : ObjectFault → E → E → Type 0) (IsAnswer : Option (List ℕ) → Option (List ℕ) → E → Type 0)
    (old new : Option (List ℕ)) (end : E) : Type 0 where
  pub text : List ℕ
  pub at : E
  pub answers : IsAnswer (Some []) (Some text) at
  pub told : IsTelling IsOr (in_memory at) old new end

-- ---- of a command on instances

-- the fault for which an object isn't written as a whole
abbrev pub fault_of : ObjectFault → Fault
fault_of Memory = fault.Memory
fault_of Unwritten = fault.Unwritten Out

-- what that makes of an end: a refusal stays
abbrev pub IsEndOr : ObjectFault → End → End → Type 0
IsEndOr why (Refused first) end = end ≡ Refused first
IsEndOr why (RefusedOf release first) end = end ≡ RefusedOf release first
IsEndOr why _ end = end ≡ Refused (fault_of why)

-- the end of a command whose text is kept in memory: there the writer fails for want of it alone
abbrev pub end_in_memory : End → End
end_in_memory (Refused (fault.Unwritten Out)) = Refused fault.Memory
end_in_memory end = end

abbrev pub IsToldAsJson : (Option (List ℕ) → Option (List ℕ) → End → Type 0) → (old new : Option (List ℕ)) → End → Type 0
IsToldAsJson = IsToldBy end_in_memory IsEndOr
