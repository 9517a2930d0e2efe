-- What a step can read: of what is known, and of what a choice and its goal give. Own profile.
use Rattle.std.specs.Prelude.{ℕ, List}
use Rattle.tt_infer.specs.declared.fact.Fact.{Fact}
use Rattle.tt_infer.specs.declared.limit.Limit.{Limit}
use Rattle.tt_infer.specs.declared.source.Source as declared
use Rattle.tt_infer.specs.declared.source.Source.TheVariants as source
use Rattle.tt_infer.specs.declared.source.Reads as declared_reads
use Rattle.tt_infer.specs.declared.source.Reads.TheVariants as read

-- a fact or a limit, or more of a process, of a ring of processes, of a node's processes or messages between two times, or of a message
pub data Source : Type 0 where
  Learnt : Fact → Source
  Fixed : Limit → Source
  Waits : ℕ → Source
  Circle : List ℕ → Source
  Runs : ℕ → ℕ → ℕ → Source
  Frames : ℕ → ℕ → ℕ → Source
  Halves : ℕ → ℕ → ℕ → ℕ → Source
  Earlier : ℕ → ℕ → Source
  Lower : ℕ → Source

-- at most two of them
pub data Reads : Type 0 where
  Nothing : Reads
  One : Source → Reads
  Two : Source → Source → Reads

-- what a program's value says
abbrev pub source_said : declared.Source → Source
source_said (source.Learnt fact) = Learnt fact
source_said (source.Fixed limit) = Fixed limit
source_said (source.Waits p) = Waits p
source_said (source.Circle ring) = Circle ring.now
source_said (source.Runs n a b) = Runs n a b
source_said (source.Frames n a b) = Frames n a b
source_said (source.Halves k n a b) = Halves k n a b
source_said (source.Earlier m r) = Earlier m r
source_said (source.Lower m) = Lower m

abbrev pub reads_said : declared_reads.Reads → Reads
reads_said read.Nothing = Nothing
reads_said (read.One source) = One (source_said source)
reads_said (read.Two first second) = Two (source_said first) (source_said second)
