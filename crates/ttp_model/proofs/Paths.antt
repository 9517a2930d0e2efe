-- One more process on a path.
use Rattle.std.proofs.Common.{◌≡◌, ℕ, ◌+◌, ◌-◌, ◌<◌, ◌≤◌, List, [], ◌∷◌, ◌++◌, length, slice_index, slice_set, count_by, ◌==◌, drop, arith, inl, inr, subst, sym, ap, ◌∙◌, refl, length-append, length-drop}
use Rattle.std.proofs.lemmas.List.{get_or-drop}
use Rattle.std.proofs.lemmas.Bool.{cases_eq}
use Rattle.std.proofs.lemmas.Grind.{common_steps}
use Rattle.std.proofs.lemmas.List.Sums.{sum_by-set}
use Rattle.ttp_model.specs.Instance.{Instance}
use Rattle.ttp_model.specs.Lists.{HasNoRepeats}
use Rattle.ttp_model.specs.Graph.{Leads, IsClosedWalk}
use Rattle.ttp_model.specs.Turns.{IsPath}

pub Leads_as : (i : Instance) (a b c d : ℕ) → a ≡ c → b ≡ d → Leads i c d → Leads i a b
Leads_as i a b c d e f h = subst (λ x. Leads i x b) (sym e) (subst (λ y. Leads i c y) (sym f) h)

pub count_step : (places : List ℕ) (at place n total : ℕ) → at < length places → slice_index places at ≡ 0 → 0 < place → n + count_by (λ t. t == 0) places ≡ total → n + 1 + count_by (λ t. t == 0) (slice_set places at place) ≡ total
count_step places at place n total inside zero pos h = grind (arith, common_steps, sum_by-set)

pub count_path_step : (path places : List ℕ) (at total : ℕ) → at < length places → slice_index places at ≡ 0 → length path + count_by (λ t. t == 0) places ≡ total → length (path ++ at ∷ []) + count_by (λ t. t == 0) (slice_set places at (length path + 1)) ≡ total
count_path_step path places at total inside zero h = omega (arith, length-append path (at ∷ []), count_step places at (length path + 1) (length path) total inside zero (omega arith) h)

module _ (path places : List ℕ) (at : ℕ) (inside : at < length places) (zero : slice_index places at ≡ 0) where
  place_path_step : (p : ℕ) → (0 < slice_index places p → (slice_index places p ≤ length path) × (slice_index path (slice_index places p - 1) ≡ p)) → 0 < slice_index (slice_set places at (length path + 1)) p → (slice_index (slice_set places at (length path + 1)) p ≤ length (path ++ at ∷ [])) × (slice_index (path ++ at ∷ []) (slice_index (slice_set places at (length path + 1)) p - 1) ≡ p)
  place_path_step p old given = elim (cases_eq p at) [
    | inl is ↦ grind (arith, common_steps)
    | inr other ↦ grind (arith, common_steps)
  ]

  path_place_step : (k : ℕ) → (k < length path → slice_index places (slice_index path k) ≡ k + 1) → k < length (path ++ at ∷ []) → slice_index (slice_set places at (length path + 1)) (slice_index (path ++ at ∷ []) k) ≡ k + 1
  path_place_step k old given = elim (cases_eq k (length path)) [
    | inl is ↦ grind (arith, common_steps)
    | inr other ↦ grind (arith, common_steps)
  ]

pub IsPath_start : (i : Instance) (turns places : List ℕ) (at : ℕ) → at < length turns → slice_index turns at ≡ 0 → length places ≡ length turns → ((p : ℕ) → slice_index places p ≡ 0) → IsPath i turns [] places at
IsPath_start i turns places at inside stuck same none = record {
  inside = inside;
  stuck = stuck;
  places_length = same;
  place_path = λ p h. let z = none p in absurd (omega arith);
  path_place = λ k h. absurd (omega arith);
  each = λ k h. absurd (omega arith);
  last = λ h. absurd (omega arith);
}

pub IsPath_step : (i : Instance) (turns path places : List ℕ) (at next : ℕ) → IsPath i turns path places at → slice_index places at ≡ 0 → Leads i at next → slice_index turns next ≡ 0 → next < length turns → IsPath i turns (path ++ at ∷ []) (slice_set places at (length path + 1)) next
IsPath_step i turns path places at next old zero leads stuck inside =
    let within : at < length places = omega (arith, old.inside, old.places_length) in
    let longer : length (path ++ at ∷ []) ≡ length path + 1 = grind (arith, common_steps) in
    record {
      inside = inside;
      stuck = stuck;
      places_length = grind (arith, common_steps, old.places_length);
      place_path = λ p h. place_path_step path places at within zero p (old.place_path p) h;
      path_place = λ k h. path_place_step path places at within zero k (old.path_place k) h;
      each = λ k h. elim (cases_eq (k + 1) (length path)) [
        | inl is ↦ Leads_as i _ _ (slice_index path (length path - 1)) at (grind (arith, common_steps)) (grind (arith, common_steps)) (old.last (omega arith))
        | inr other ↦ Leads_as i _ _ (slice_index path k) (slice_index path (k + 1)) (grind (arith, common_steps)) (grind (arith, common_steps)) (old.each k (omega arith))
      ];
      last = λ h. Leads_as i _ _ at next (grind (arith, common_steps)) refl leads;
    }

-- what stands after the first n
pub drop_at : (n : ℕ) (xs : List ℕ) (k m : ℕ) → n + k ≡ m → slice_index (drop n xs) k ≡ slice_index xs m
drop_at n xs k m e = get_or-drop n xs k 0 ∙ ap (slice_index xs) e

-- the part of the path from the place that the search came back to
module _ (i : Instance) (turns path places : List ℕ) (at first : ℕ) (p : IsPath i turns path places at) (seen : slice_index places at ≡ first + 1) where
  pub first_below : first < length path
  first_below = let here = p.place_path at (omega arith) in omega (arith, here.0)

  pub at_first : slice_index path first ≡ at
  at_first = let here = p.place_path at (omega arith) in ap (slice_index path) (omega arith) ∙ here.1

  pub IsClosedWalk_from : IsClosedWalk i (drop first path)
  IsClosedWalk_from =
      let lt = first_below in
      let long : length (drop first path) ≡ length path - first = length-drop first path in
      record {
        some = omega arith;
        each = λ k h. Leads_as i _ _ (slice_index path (first + k)) (slice_index path (first + k + 1)) (drop_at first path k (first + k) refl) (drop_at first path (k + 1) (first + k + 1) (omega arith)) (p.each (first + k) (omega arith));
        closes = Leads_as i _ _ (slice_index path (length path - 1)) at (drop_at first path (length (drop first path) - 1) (length path - 1) (omega arith)) (drop_at first path 0 first (omega arith) ∙ at_first) (p.last (omega arith));
      }

  pub HasNoRepeats_from : HasNoRepeats (drop first path)
  HasNoRepeats_from j k lt within same =
      let long : length (drop first path) ≡ length path - first = length-drop first path in
      let a = p.path_place (first + j) (omega arith) in
      let b = p.path_place (first + k) (omega arith) in
      let there : slice_index path (first + j) ≡ slice_index path (first + k) = sym (drop_at first path j (first + j) refl) ∙ same ∙ drop_at first path k (first + k) refl in
      let e : slice_index places (slice_index path (first + j)) ≡ slice_index places (slice_index path (first + k)) = ap (slice_index places) there in
      omega (arith, a, b, e)
