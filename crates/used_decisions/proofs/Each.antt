-- What is marked of the things of a list, one after another.
use Rattle.std.proofs.Common.{◌≡◌, ℕ, ◌+◌, ◌<◌, ◌≤◌, List, length, slice_index, true, Bool, arith, inl, inr, subst, ◌∙◌}
use Rattle.std.proofs.lemmas.Bool.{cases_eq}
use Rattle.std.proofs.lemmas.List.{get_or_default}
use Rattle.ttp_model.specs.Network.{indices}
use Rattle.ttp_model.proofs.Indices.{in_indices}
use Rattle.used_decisions.specs.Turns.{Path}
use Rattle.used_decisions.specs.declared.uses.Uses.{Uses}
use Rattle.used_decisions.specs.Uses.{IsMore}
use Rattle.used_decisions.specs.Steps.{IsReadOf, TellsEach}
use Rattle.used_decisions.proofs.Tells.{more_none, more_twice, read_more}

-- what stays marked as more is
abbrev pub Stays : (Uses → ℕ → Type 0) → Type 0
Stays Tells = (old new : Uses) (k : ℕ) → IsMore old new → Tells old k → Tells new k

-- of the first so many things of a list all is marked
pub record AreTold (path : Path) (Given : Type 0) (Tells : Uses → ℕ → Type 0) (list : List ℕ) (old new : Uses) (count : ℕ) : Type 0 where
  pub more : IsMore old new
  pub told : IsReadOf path old → Given → (k : ℕ) → k < count → Tells new (slice_index list k)

module _ (path : Path) (Given : Type 0) (Tells : Uses → ℕ → Type 0) (list : List ℕ) (old : Uses) where
  pub told_first : AreTold path Given Tells list old old 0
  told_first = record { more = more_none old; told = λ read so k below. absurd (omega (arith, below)) }

  pub told_next : (new next : Uses) (count : ℕ) → Stays Tells → AreTold path Given Tells list old new count → IsMore new next
      → (IsReadOf path new → Given → Tells next (slice_index list count)) → AreTold path Given Tells list old next (count + 1)
  told_next new next count stays are more one = record {
    more = more_twice old new next are.more more;
    told = λ read so k below. elim (cases_eq k count) [
      | inl same ↦ rw same (one (read_more path old new are.more read) so)
      | inr other ↦ stays new next (slice_index list k) more (are.told read so k (omega (arith, below, other)))
    ];
  }

  pub told_all : (new : Uses) (count : ℕ) → length list ≤ count → AreTold path Given Tells list old new count → IsReadOf path old → Given
      → TellsEach Tells list new
  told_all new count done are read so k inside = are.told read so k (omega (arith, inside, done))

-- so it is of each that a test picks
pub told_of : (Tells : Uses → ℕ → Type 0) (test : ℕ → Bool) (count : ℕ) (uses : Uses) (x : ℕ) → TellsEach Tells (indices test count) uses → x < count
    → test x ≡ true → Tells uses x
told_of Tells test count uses x told inside picks =
    let found = in_indices test count x inside picks in
    subst (Tells uses) (get_or_default (indices test count) found.0 0 x found.1 ∙ found.2) (told found.0 found.1)
