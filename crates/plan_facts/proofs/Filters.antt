-- What a filter keeps of the numbers below a count.
use Rattle.std.proofs.Common.{◌≡◌, ℕ, zero, suc, ◌+◌, ◌<◌, Bool, true, false, List, [], ◌∷◌, ◌++◌, cond, filter, arith, refl, sym, add-one}
use Rattle.std.specs.List.{range_with_len}
use Rattle.std.proofs.lemmas.List.{append-nil}
use Rattle.std.proofs.lemmas.List.Elements.{filter-append}
use Rattle.ttp_model.proofs.Ranges.{range_more}

module _ (p : ℕ → Bool) where
  pub filter_next : (n : ℕ) → filter p (range_with_len 0 (n + 1)) ≡ filter p (range_with_len 0 n) ++ cond (p n) (n ∷ []) []
  filter_next n = rw (range_more n) (filter-append p (range_with_len 0 n) (n ∷ []))

  pub filter_more : (n : ℕ) → filter p (range_with_len 0 (suc n)) ≡ filter p (range_with_len 0 n) ++ cond (p n) (n ∷ []) []
  filter_more n = rw add-one at (filter_next n)

  pub filter_taken : (kept : List ℕ) (n : ℕ) → p n ≡ true → kept ≡ filter p (range_with_len 0 n) → kept ++ n ∷ [] ≡ filter p (range_with_len 0 (n + 1))
  filter_taken kept n passes so_far = rw (filter_next n, passes, so_far) refl

  pub filter_left : (kept : List ℕ) (n : ℕ) → p n ≡ false → kept ≡ filter p (range_with_len 0 n) → kept ≡ filter p (range_with_len 0 (n + 1))
  filter_left kept n fails so_far = rw (filter_next n, fails, so_far) (sym (append-nil (filter p (range_with_len 0 n))))

  pub filter_none : (n : ℕ) → ((k : ℕ) → k < n → p k ≡ false) → filter p (range_with_len 0 n) ≡ []
  filter_none zero fails = refl
  filter_none (suc n) fails = rw (filter_more n, filter_none n (λ k below. fails k (omega (arith, below))), fails n (omega arith)) refl
