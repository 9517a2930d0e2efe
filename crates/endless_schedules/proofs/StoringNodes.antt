-- A message with a delay is stored on each node of a receiver, and on no other.
use Rattle.std.proofs.Common.{◌≡◌, ◌∙◌, ℕ, zero, suc, ◌+◌, ◌<◌, ◌≤◌, ◌==◌, ◌⊎◌, Bool, true, false, List, [], ◌∷◌, ◌++◌, if◌then◌else◌, length, slice_index, slice_index_or, map, fold, All, Contains, arith, inl, inr, refl, sym, ap, subst}
use Rattle.std.specs.List.{list_any}
use Rattle.std.proofs.lemmas.Bool.{cases_Bool, eqb-true, false≢true, ne_eqb, or_cases}
use Rattle.std.proofs.lemmas.Bool.Decides.{eqb_tells}
use Rattle.std.proofs.lemmas.List.{get_or_default}
use Rattle.std.proofs.lemmas.List.Elements.{All-get_or, All-map, All-push, Contains-append_left, Contains-push}
use Rattle.rates_model.specs.declared.parts.RatesMessage.{RatesMessage}
use Rattle.rates_model.specs.Rates.{Rates, node_of}
use Rattle.endless_schedules.specs.Stores.{each_once, receiving_nodes, storing_nodes, with_new}
use Rattle.endless_schedules.proofs.Members.{Contains-cons, Contains-map}

any_has : (xs : List ℕ) (x : ℕ) → list_any (λ y. y == x) xs ≡ true → Contains xs x
any_has [] x is = absurd (false≢true is)
any_has (y ∷ ys) x is = elim (or_cases (y == x) (list_any (λ z. z == x) ys) is) [
  | inl here ↦ (0, omega arith, eqb-true y x here)
  | inr later ↦ Contains-cons y ys x (any_has ys x later)
]

with_new_has : (xs : List ℕ) (x : ℕ) → Contains (with_new xs x) x
unfolding with_new
with_new_has xs x = elim (cases_Bool (list_any (λ y. y == x) xs)) [
  | inl there ↦ rw there (any_has xs x there)
  | inr not_there ↦ rw not_there (Contains-push xs x)
]

with_new_keeps : (xs : List ℕ) (x y : ℕ) → Contains xs y → Contains (with_new xs x) y
unfolding with_new
with_new_keeps xs x y has = elim (cases_Bool (list_any (λ z. z == x) xs)) [
  | inl there ↦ rw there has
  | inr not_there ↦ rw not_there (Contains-append_left xs (x ∷ []) y has)
]

with_new_all : (P : ℕ → Type 0) (xs : List ℕ) (x : ℕ) → All P xs → P x → All P (with_new xs x)
unfolding with_new
with_new_all P xs x all here = elim (cases_Bool (list_any (λ z. z == x) xs)) [
  | inl there ↦ rw there all
  | inr not_there ↦ rw not_there (All-push P xs x all here)
]

kept_once : (before xs : List ℕ) (y : ℕ) → Contains before y → Contains (fold with_new before xs) y
kept_once before [] y has = has
kept_once before (x ∷ xs) y has = kept_once (with_new before x) xs y (with_new_keeps before x y has)

taken_once : (before xs : List ℕ) (k y : ℕ) → k < length xs → slice_index xs k ≡ y → Contains (fold with_new before xs) y
taken_once before [] k y inside is = absurd (omega (arith, inside))
taken_once before (x ∷ xs) zero y inside is = kept_once (with_new before x) xs y (subst (Contains (with_new before x)) is (with_new_has before x))
taken_once before (x ∷ xs) (suc k) y inside is = taken_once (with_new before x) xs k y (omega (arith, inside)) is

all_once : (P : ℕ → Type 0) (before xs : List ℕ) → All P before → All P xs → All P (fold with_new before xs)
all_once P before [] first rest = first
all_once P before (x ∷ xs) first rest =
    all_once P (with_new before x) xs (with_new_all P before x first (rest 0 0 (omega arith))) (λ k d inside. rest (suc k) d (omega (arith, inside)))

module _ (rho : Rates) (m : RatesMessage) where
  pub stored_there : (q : ℕ) → m.delay ≡ 1 → Contains m.receivers q → Contains (storing_nodes rho m) (node_of rho q)
  unfolding storing_nodes
  stored_there q one receives =
      let nodes = map (node_of rho) m.receivers in
      let has = Contains-map (node_of rho) m.receivers q receives in
      rw (ne_eqb m.delay 0 (λ none. omega (arith, one, none)))
      (taken_once [] nodes has.0 (node_of rho q) has.1 (get_or_default nodes has.0 0 (node_of rho q) has.1 ∙ has.2))

  -- some receiver is on this node, and reads what was made a period before
  abbrev pub IsStoring : ℕ → Type 0
  IsStoring n = (q : ℕ) × Contains m.receivers q × (node_of rho q ≡ n)

  pub stored_for : (place : ℕ) → m.delay ≤ 1 → place < length (storing_nodes rho m) → (m.delay ≡ 1) × IsStoring (slice_index (storing_nodes rho m) place)
  unfolding storing_nodes
  stored_for place short inside = elim (eqb_tells m.delay 0) [
    | inl none ↦ absurd (let z : place < 0 = rw none.0 at inside in omega (arith, z))
    | inr some ↦
        let there : place < length (receiving_nodes rho m) = rw some.0 at inside in
        rw some.0 (omega (arith, short, some.1), All-get_or IsStoring (receiving_nodes rho m) place 0 there each)
  ]
    where
      each : All IsStoring (receiving_nodes rho m)
      each = all_once IsStoring [] (map (node_of rho) m.receivers) (λ k d inside. absurd (omega (arith, inside)))
          (All-map IsStoring (node_of rho) m.receivers (λ k d inside. (slice_index_or m.receivers k d, (k, inside, get_or_default m.receivers k _ d inside), refl)))
