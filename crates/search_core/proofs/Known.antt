-- How events change the known delay.
use Rattle.std.proofs.Common.{◌≡◌, ℕ, zero, suc, ◌<◌, ◌≤◌, min, List, [], ◌∷◌, length, get_or, set, refl, sym, ap, subst, ◌∙◌, inl, inr, ◌⊎◌, arith}
use Rattle.std.proofs.lemmas.Bool.{cases_lt}
use Rattle.ttp_model.specs.Instance.{Instance}
use Rattle.search_core.specs.declared.hand.Hand.{Hand}
use Rattle.search_core.specs.declared.hand.Hand.TheVariants.{Empty, Task, Children, Value}
use Rattle.search_core.specs.World.{Worker}
use Rattle.search_core.specs.Bounds.{with_hand, least_with, IsDelay}

pub with_hand_le : (h : Hand) (k : ℕ) → with_hand h k ≤ k
with_hand_le Empty k = omega arith
with_hand_le (Task name) k = omega arith
with_hand_le (Children names) k = omega arith
with_hand_le (Value v) k = omega arith

pub known_best : (best : ℕ) (seats : List Worker) → least_with best seats ≤ best
known_best best [] = omega arith
known_best best (s ∷ seats) = omega (arith, with_hand_le s.hand (least_with best seats), known_best best seats)

with_lesser : (h : Hand) (v k : ℕ) → with_hand h (min v k) ≡ min v (with_hand h k)
with_lesser Empty v k = refl
with_lesser (Task name) v k = refl
with_lesser (Children names) v k = refl
with_lesser (Value u) v k = omega arith

-- a worker whose hand counts as before
pub least_put : (best : ℕ) (xs : List Worker) (w : ℕ) (t d : Worker) → w < length xs
    → ((k : ℕ) → with_hand t.hand k ≡ with_hand (get_or xs w d).hand k) → least_with best (set xs w t) ≡ least_with best xs
least_put best [] w t d h same = refl
least_put best (x ∷ xs) zero t d h same = same (least_with best xs)
least_put best (x ∷ xs) (suc w) t d h same =
    let less : w < length xs = omega arith in
    ap (with_hand x.hand) (least_put best xs w t d less same)

-- a worker that found a value
pub least_found : (best : ℕ) (xs : List Worker) (w : ℕ) (t d : Worker) (v : ℕ) → w < length xs → ((k : ℕ) → with_hand (get_or xs w d).hand k ≡ k)
    → ((k : ℕ) → with_hand t.hand k ≡ min v k) → least_with best (set xs w t) ≡ min v (least_with best xs)
least_found best [] w t d v h none value = absurd (omega (arith, h))
least_found best (x ∷ xs) zero t d v h none value = value (least_with best xs) ∙ ap (min v) (sym (none (least_with best xs)))
least_found best (x ∷ xs) (suc w) t d v h none value =
    let less : w < length xs = omega arith in
    ap (with_hand x.hand) (least_found best xs w t d v less none value) ∙ with_lesser x.hand v (least_with best xs)

-- a worker that gave its value away
pub least_given : (best : ℕ) (xs : List Worker) (w : ℕ) (t d : Worker) (v : ℕ) → w < length xs
    → ((k : ℕ) → with_hand (get_or xs w d).hand k ≡ min v k) → ((k : ℕ) → with_hand t.hand k ≡ k) → least_with best xs ≡ min v (least_with best (set xs w t))
least_given best [] w t d v h value none = absurd (omega (arith, h))
least_given best (x ∷ xs) zero t d v h value none = value (least_with best xs) ∙ ap (min v) (sym (none (least_with best xs)))
least_given best (x ∷ xs) (suc w) t d v h value none =
    let less : w < length xs = omega arith in
    ap (with_hand x.hand) (least_given best xs w t d v less value none) ∙ with_lesser x.hand v (least_with best (set xs w t))

pub least_best : (best v : ℕ) (xs : List Worker) → least_with (min best v) xs ≡ min v (least_with best xs)
least_best best v [] = omega arith
least_best best v (x ∷ xs) = ap (with_hand x.hand) (least_best best v xs) ∙ with_lesser x.hand v (least_with best xs)

-- the known delay is the best one, or a value
abbrev pub IsOneOf : Instance → ℕ → ℕ → Type 0
IsOneOf i best k = (k ≡ best) ⊎ IsDelay i k

one_with : (i : Instance) (best : ℕ) (h : Hand) (k : ℕ) → ((v : ℕ) → h ≡ Value v → IsDelay i v) → IsOneOf i best k → IsOneOf i best (with_hand h k)
one_with i best Empty k value one = one
one_with i best (Task name) k value one = one
one_with i best (Children names) k value one = one
one_with i best (Value v) k value one =
    elim (cases_lt v k) [
      | inl lt ↦
          let e : v ≡ min v k = omega arith in
          let P : ℕ → Type 0 = IsOneOf i best in
          subst P e (inr (value v refl))
      | inr le ↦
          let e : k ≡ min v k = omega arith in
          let P : ℕ → Type 0 = IsOneOf i best in
          subst P e one
    ]

-- a fact of each worker
abbrev pub Each : (Worker → Type 0) → List Worker → Type 0
Each P [] = Unit {0}
Each P (s ∷ seats) = P s × Each P seats

pub Each-set : (P : Worker → Type 0) (xs : List Worker) (w : ℕ) (t : Worker) → P t → Each P xs → Each P (set xs w t)
Each-set P [] w t here all = all
Each-set P (x ∷ xs) zero t here all = (here, all.1)
Each-set P (x ∷ xs) (suc w) t here all = (all.0, Each-set P xs w t here all.1)

pub Each-weaker : (P Q : Worker → Type 0) (xs : List Worker) → ((s : Worker) → P s → Q s) → Each P xs → Each Q xs
Each-weaker P Q [] h all = tt
Each-weaker P Q (x ∷ xs) h all = (h x all.0, Each-weaker P Q xs h all.1)

pub Each-get_or : (P : Worker → Type 0) (xs : List Worker) (w : ℕ) (d : Worker) → w < length xs → Each P xs → P (get_or xs w d)
Each-get_or P [] w d h all = absurd (omega (arith, h))
Each-get_or P (x ∷ xs) zero d h all = all.0
Each-get_or P (x ∷ xs) (suc w) d h all =
    let less : w < length xs = omega arith in
    Each-get_or P xs w d less all.1

abbrev pub HasDelay : Instance → Worker → Type 0
HasDelay i s = (v : ℕ) → s.hand ≡ Value v → IsDelay i v

pub known_is : (i : Instance) (best : ℕ) (seats : List Worker) → Each (HasDelay i) seats → IsOneOf i best (least_with best seats)
known_is i best [] all = inl refl
known_is i best (s ∷ seats) all = one_with i best s.hand (least_with best seats) all.0 (known_is i best seats all.1)
