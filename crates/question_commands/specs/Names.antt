-- Which processes words name.
use Rattle.std.specs.Prelude.{◌≡◌, ◌≢◌, ℕ, ◌<◌, List, [], length, map, slice_index, slice_index_or}
use Rattle.std.specs.Borrow.{Bor}
use Rattle.ttp_model.specs.Lists.{EachBelow, IsFirstFailure}
use Rattle.ttp_model.specs.Instance.{Instance, process_at}
use Rattle.command_streams.specs.declared.ending.Fault.{Fault}
use Rattle.command_streams.specs.declared.ending.Fault.TheVariants.{Memory, NoSuchProcess}

-- the bytes of words
abbrev pub texts_of : List (Bor (List ℕ)) → List (List ℕ)
texts_of words = map (λ word. word.now) words

-- the word of this index
abbrev pub word_at : List (List ℕ) → ℕ → List ℕ
word_at words k = slice_index_or words k []

-- process p has this name
pub record HasName (i : Instance) (name : List ℕ) (p : ℕ) : Type 0 where
  pub there : p < length i.processes
  pub same : (process_at i p).name ≡ name

-- no word before that of this index is the same
abbrev pub IsFirst : List (List ℕ) → ℕ → Type 0
IsFirst words k = EachBelow k (λ j. word_at words j ≢ word_at words k)

-- the word of this index names a process, and no word before it names the same one
pub record NamesAnother (i : Instance) (words : List (List ℕ)) (k : ℕ) : Type 0 where
  pub process : ℕ
  pub has : HasName i (word_at words k) process
  pub first : IsFirst words k

-- the words name these processes, one each and each once
pub record AreNamed (i : Instance) (words : List (List ℕ)) (ps : List ℕ) : Type 0 where
  pub all : length ps ≡ length words
  pub each : EachBelow (length words) (λ k. HasName i (word_at words k) (slice_index ps k))
  pub once : EachBelow (length words) (IsFirst words)

-- why words name no processes: the first that names none, or one that a word before it names; or memory was refused
abbrev pub IsNameFault : Instance → List (List ℕ) → Fault → Type 0
IsNameFault i words Memory = Unit {0}
IsNameFault i words (NoSuchProcess k) = IsFirstFailure (length words) (NamesAnother i words) k
IsNameFault i words _ = ⊥
