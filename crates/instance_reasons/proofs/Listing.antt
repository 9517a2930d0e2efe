-- Lists that tell the numbers below a count, all of them or those that pass, grow as loops go.
use Rattle.std.proofs.Common.{◌≡◌, ℕ, ◌+◌, Bool, true, false, List, [], ◌∷◌, ◌++◌, cond, filter}
use Rattle.std.specs.List.{range_with_len}
use Rattle.std.proofs.lemmas.List.{append-nil}
use Rattle.std.proofs.lemmas.List.Elements.{filter-append}
use Rattle.sentences.specs.Lists.{AreTold}
use Rattle.sentences.proofs.Listing.{one_more}
use Rattle.ttp_model.proofs.Ranges.{range_more}

module _ {B : Type 0} (Tells : ℕ → B → Type 0) where
  pub counted_more : (n : ℕ) (ys new : List B) (y : B) → AreTold Tells (range_with_len 0 n) ys → Tells n y → new ≡ ys ++ y ∷ []
      → AreTold Tells (range_with_len 0 (n + 1)) new
  counted_more n ys new y are is more = rw (more, range_more n) (one_more Tells (range_with_len 0 n) ys n y are is)

  module _ (p : ℕ → Bool) where
    next : (n : ℕ) → filter p (range_with_len 0 (n + 1)) ≡ filter p (range_with_len 0 n) ++ cond (p n) (n ∷ []) []
    next n = rw (range_more n) (filter-append p (range_with_len 0 n) (n ∷ []))

    pub taken : (n : ℕ) (ys new : List B) (y : B) → p n ≡ true → AreTold Tells (filter p (range_with_len 0 n)) ys → Tells n y → new ≡ ys ++ y ∷ []
        → AreTold Tells (filter p (range_with_len 0 (n + 1))) new
    taken n ys new y passes are is more = rw (more, next n, passes) (one_more Tells (filter p (range_with_len 0 n)) ys n y are is)

    pub left : (n : ℕ) (ys : List B) → p n ≡ false → AreTold Tells (filter p (range_with_len 0 n)) ys → AreTold Tells (filter p (range_with_len 0 (n + 1))) ys
    left n ys fails are = rw (next n, fails, append-nil (filter p (range_with_len 0 n))) are
