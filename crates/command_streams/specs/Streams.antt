-- What a reader gave, or why it gave nothing, and what a writer took.
use Rattle.std.specs.Prelude.{◌≡◌, ℕ, ◌+◌, ◌<◌, ◌≤◌, List, [], ◌++◌, length, take, IfSome, Option}
use Rattle.std.specs.Io.KnownBytes.{Appends, Consumes}
use Rattle.command_streams.specs.declared.input.Taken.{Taken}
use Rattle.command_streams.specs.declared.input.Stop.{Stop}
use Rattle.command_streams.specs.declared.input.Stop.TheVariants.{AtEnd, OverLimit, Failed}
use Rattle.command_streams.specs.declared.ending.Source.{Source}
use Rattle.command_streams.specs.declared.ending.Fault.{Fault}
use Rattle.command_streams.specs.declared.ending.Fault.TheVariants.{Memory, TooLong, Unread}

-- what is taken of all bytes that a reader has: all where they are within the limit, and else a part that is over
-- it; a part within the limit where the reader failed
abbrev pub IsTakenUntil : Stop → ℕ → List ℕ → List ℕ → Type 0
IsTakenUntil AtEnd limit bytes rest = (length bytes ≤ limit) × (rest ≡ [])
IsTakenUntil OverLimit limit bytes rest = length bytes ≡ limit + 1
IsTakenUntil Failed limit bytes rest = length bytes ≤ limit

-- the bytes taken are the first of all, and are as many as the end says
pub record IsTaken (limit : ℕ) (taken : Taken) (all : List ℕ) : Type 0 where
  pub rest : List ℕ
  pub first : all ≡ taken.bytes.items ++ rest
  pub until : IsTakenUntil taken.stop limit taken.bytes.items rest

-- a reader's first bytes were taken, at most so many
pub record TakesAtMost (most : ℕ) (old new : Option (List ℕ)) : Type 0 where
  pub bytes : List ℕ
  pub few : length bytes ≤ most
  pub taken : Consumes old new bytes

-- a reader failed, has more bytes than its limit, or memory was refused
abbrev pub IsReadFault : Source → (limit : ℕ) → (known : Option (List ℕ)) → Fault → Type 0
IsReadFault source limit known Memory = Unit {0}
IsReadFault source limit known (Unread other) = other ≡ source
IsReadFault source limit known (TooLong other) = (other ≡ source) × IfSome known (λ bytes. limit < length bytes)
IsReadFault source limit known _ = ⊥

-- the fault isn't one of reading, neither of a reader nor of want of memory for its bytes
abbrev pub IsOfReadBytes : Fault → Type 0
IsOfReadBytes Memory = ⊥
IsOfReadBytes (Unread source) = ⊥
IsOfReadBytes (TooLong source) = ⊥
IsOfReadBytes _ = Unit {0}

-- the writer gained a prefix of the text
pub record AppendsPart (old new : Option (List ℕ)) (text : List ℕ) : Type 0 where
  pub count : ℕ
  pub within : count ≤ length text
  pub appends : Appends old new (take count text)
