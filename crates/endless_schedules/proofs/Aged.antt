-- Which job is carried along a chain, place by place from its end, and the least of the ticks by which chains want a job to end.
use Rattle.std.proofs.Common.{◌≡◌, ◌∙◌, ℕ, zero, suc, ◌+◌, ◌-◌, ◌*◌, ◌/◌, ◌<◌, ◌≤◌, Bool, true, false, cond, List, [], ◌∷◌, ◌++◌, length, map, filter, fold, min, take, drop, get_or, slice_index, arith, refl, ap, add-one}
use Rattle.std.proofs.lemmas.List.{append-nil, take_more, map-append}
use Rattle.std.proofs.lemmas.List.Elements.{filter-append}
use Rattle.std.proofs.lemmas.List.Sums.{fold-append}
use Rattle.std.proofs.Math.Nat.{div-mul-le_self, mul-le-mul_right}
use Rattle.rates_model.specs.Rates.{Rates}
use Rattle.rates_model.specs.Reads.{last_begun}
use Rattle.rates_model.specs.Ages.{carried, wait_of}

module _ (rho : Rates) (j : ℕ) where
  -- from one place to the one before it
  carried_next : (ps : List ℕ) (k : ℕ) → suc k < length ps
      → carried rho (drop k ps) j ≡ last_begun rho (slice_index ps k) (slice_index ps (suc k)) (carried rho (drop (suc k) ps) j) - wait_of rho (slice_index ps k) (slice_index ps (suc k))
  carried_next [] k within = absurd (omega (arith, within))
  carried_next (p ∷ []) k within = absurd (omega (arith, within))
  carried_next (p ∷ q ∷ ps) zero within = refl
  carried_next (p ∷ q ∷ ps) (suc k) within = carried_next (q ∷ ps) k (omega (arith, within))

  pub carried_step : (ps : List ℕ) (k : ℕ) → k + 1 < length ps
      → carried rho (drop k ps) j ≡ last_begun rho (slice_index ps k) (slice_index ps (k + 1)) (carried rho (drop (k + 1) ps) j) - wait_of rho (slice_index ps k) (slice_index ps (k + 1))
  carried_step ps k within = rw add-one (carried_next ps k (rw add-one at within))

  -- at the last place
  pub carried_last : (ps : List ℕ) (k : ℕ) → k + 1 ≡ length ps → carried rho (drop k ps) j ≡ j
  carried_last [] k is = absurd (omega (arith, is))
  carried_last (p ∷ []) zero is = refl
  carried_last (p ∷ []) (suc k) is = absurd (omega (arith, is))
  carried_last (p ∷ q ∷ ps) zero is = absurd (omega (arith, is))
  carried_last (p ∷ q ∷ ps) (suc k) is = carried_last (q ∷ ps) k (omega (arith, is))

-- in ticks it is never later
pub begun_small : (j tp tq wait most : ℕ) → j * tq ≤ most → (j * tq / tp - wait) * tp ≤ most
begun_small j tp tq wait most small =
    let less : (j * tq / tp - wait) * tp ≤ j * tq / tp * tp = mul-le-mul_right tp (omega arith) in
    omega (arith, less, div-mul-le_self (j * tq) tp, small)

-- the least of what is kept, with one element more
module _ {X : Type 0} (tick : ℕ) (f : X → ℕ) (p : X → Bool) (xs : List X) (i : ℕ) (d : X) (within : i < length xs) where
  filtered_more : (b : Bool) → p (get_or xs i d) ≡ b → filter p (take (i + 1) xs) ≡ filter p (take i xs) ++ cond b (get_or xs i d ∷ []) []
  filtered_more b is =
      ap (filter p) (take_more xs i d within) ∙ filter-append p (take i xs) (get_or xs i d ∷ [])
      ∙ ap (λ (c : Bool). filter p (take i xs) ++ cond c (get_or xs i d ∷ []) []) is

  pub least_kept : p (get_or xs i d) ≡ true
      → fold min tick (map f (filter p (take (i + 1) xs))) ≡ min (fold min tick (map f (filter p (take i xs)))) (f (get_or xs i d))
  least_kept is =
      ap (λ (ys : List X). fold min tick (map f ys)) (filtered_more true is)
      ∙ ap (fold min tick) (map-append f (filter p (take i xs)) (get_or xs i d ∷ []))
      ∙ fold-append min tick (map f (filter p (take i xs))) (f (get_or xs i d) ∷ [])

  pub least_left : p (get_or xs i d) ≡ false → fold min tick (map f (filter p (take (i + 1) xs))) ≡ fold min tick (map f (filter p (take i xs)))
  least_left is = ap (λ (ys : List X). fold min tick (map f ys)) (filtered_more false is ∙ append-nil (filter p (take i xs)))
