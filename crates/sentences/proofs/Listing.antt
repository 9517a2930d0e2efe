-- Lists that tell others grow item by item, as loops go.
use Rattle.std.proofs.Common.{◌≡◌, ℕ, ◌+◌, ◌<◌, List, [], ◌∷◌, ◌++◌, length, get_or, take}
use Rattle.std.proofs.lemmas.List.{take_more}
use Rattle.sentences.specs.Lists.{AreTold}

module _ {A B : Type 0} (Tells : A → B → Type 0) where
  pub one_more : (xs : List A) (ys : List B) (x : A) (y : B) → AreTold Tells xs ys → Tells x y → AreTold Tells (xs ++ x ∷ []) (ys ++ y ∷ [])
  one_more [] [] x y are is = (is, tt)
  one_more [] (b ∷ ys) x y are is = absurd are
  one_more (a ∷ xs) [] x y are is = absurd are
  one_more (a ∷ xs) (b ∷ ys) x y are is = (are.0, one_more xs ys x y are.1 is)

  -- so many items of a list, and then the next one
  pub next_more : (xs : List A) (k : ℕ) (d : A) (ys new : List B) (y : B) → k < length xs → AreTold Tells (take k xs) ys → Tells (get_or xs k d) y
      → new ≡ ys ++ y ∷ [] → AreTold Tells (take (k + 1) xs) new
  next_more xs k d ys new y inside are is more = rw (more, take_more xs k d inside) (one_more (take k xs) ys (get_or xs k d) y are is)
