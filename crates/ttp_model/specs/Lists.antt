-- Words on lists and indices that the definitions of instances and plans share.
use Rattle.std.specs.Prelude.{◌≢◌, ℕ, ◌<◌, List, length, slice_index, slice_index_or, max, fold, Bool, false, Option, None, Some}

-- P holds at each index below n
abbrev pub EachBelow : ℕ → (ℕ → Type 0) → Type 0
EachBelow n P = (k : ℕ) → k < n → P k

-- k is the first index below n at which P fails
pub record IsFirstFailure (n : ℕ) (P : ℕ → Type 0) (k : ℕ) : Type 0 where
  pub within : k < n
  pub fails : ¬ P k
  pub holds_before : EachBelow k P

-- the answer of a search for the first index at which P fails: none means that P holds at each
abbrev pub FindsFailure : ℕ → (ℕ → Type 0) → Option ℕ → Type 0
FindsFailure n P None = EachBelow n P
FindsFailure n P (Some k) = IsFirstFailure n P k

-- no number stands twice
abbrev pub HasNoRepeats : List ℕ → Type 0
HasNoRepeats xs = (j k : ℕ) → j < k → k < length xs → slice_index xs j ≢ slice_index xs k

-- the greatest of the numbers, or 0 where there is none
abbrev pub greatest : List ℕ → ℕ
greatest xs = fold max 0 xs

-- a flag is set: none is past the end
abbrev pub is_set : List Bool → ℕ → Bool
is_set flags place = slice_index_or flags place false
