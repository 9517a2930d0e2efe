-- Closed walks told from another process, and turns that rule them out.
use Rattle.std.proofs.Common.{◌≡◌, ℕ, zero, suc, ◌+◌, ◌-◌, ◌<◌, ◌≤◌, List, ◌++◌, length, slice_index, take, drop, arith, ◌⊎◌, inl, inr, sym, ap, ◌∙◌, refl, length-append, length-drop, length-take, add-one, nat_lt}
use Rattle.std.proofs.lemmas.List.{get_or_append_left, get_or-take}
use Rattle.std.proofs.Math.Seq.{get_or-append_right}
use Rattle.std.proofs.lemmas.Bool.{cases_eq, cases_order}
use Rattle.std.proofs.lemmas.Bool.Decides.{nat_tests}
use Rattle.std.proofs.lemmas.Grind.{common_steps}
use Rattle.std.specs.List.{IsFirstBest}
use Rattle.ttp_model.specs.declared.error.Place.{Place}
use Rattle.ttp_model.specs.declared.error.Place.TheVariants.{AtLink, AtMessage}
use Rattle.ttp_model.specs.Instance.{Instance}
use Rattle.ttp_model.specs.Lists.{HasNoRepeats}
use Rattle.ttp_model.specs.Rules.{NamesWhatIsThere}
use Rattle.ttp_model.specs.Graph.{Leads, IsClosedWalk, IsCycle, IsAcyclic}
use Rattle.ttp_model.specs.Turns.{AreTurns}
use Rattle.ttp_model.proofs.Paths.{Leads_as, drop_at}

module _ (k : ℕ) (xs : List ℕ) (within : k < length xs) where
  length-told : length (drop k xs ++ take k xs) ≡ length xs
  length-told = omega (arith, length-append (drop k xs) (take k xs), length-drop k xs, length-take k xs)

  told_low : (j m : ℕ) → k + j ≡ m → m < length xs → slice_index (drop k xs ++ take k xs) j ≡ slice_index xs m
  told_low j m e h = get_or_append_left (drop k xs) (take k xs) 0 j (omega (arith, length-drop k xs)) ∙ drop_at k xs j m e

  told_high : (j m : ℕ) → k + j ≡ length xs + m → m < k → slice_index (drop k xs ++ take k xs) j ≡ slice_index xs m
  told_high j m e h =
      let long = length-drop k xs in
      let there : j - length (drop k xs) ≡ m = omega arith in
      get_or-append_right (drop k xs) (take k xs) j 0 (omega arith) ∙ ap (slice_index (take k xs)) there ∙ get_or-take k xs m 0 h

  told_each : (i : Instance) → IsClosedWalk i xs → (j : ℕ) → j + 1 < length (drop k xs ++ take k xs) → Leads i (slice_index (drop k xs ++ take k xs) j) (slice_index (drop k xs ++ take k xs) (j + 1))
  told_each i r j h =
      let long = length-told in
      elim (cases_order (k + j + 1) (length xs)) [
        | inl is ↦ Leads_as i _ _ (slice_index xs (length xs - 1)) (slice_index xs 0) (told_low j (length xs - 1) (omega arith) (omega arith)) (told_high (j + 1) 0 (omega arith) (omega arith)) r.closes
        | inr other ↦ elim other [
          | inl low ↦ Leads_as i _ _ (slice_index xs (k + j)) (slice_index xs (k + j + 1)) (told_low j (k + j) refl (omega arith)) (told_low (j + 1) (k + j + 1) (omega arith) low) (r.each (k + j) low)
          | inr high ↦ Leads_as i _ _ (slice_index xs (k + j - length xs)) (slice_index xs (k + j - length xs + 1)) (told_high j (k + j - length xs) (omega arith) (omega arith)) (told_high (j + 1) (k + j - length xs + 1) (omega arith) (omega arith)) (r.each (k + j - length xs) (omega arith))
        ]
      ]

  told_closes : (i : Instance) → IsClosedWalk i xs → Leads i (slice_index (drop k xs ++ take k xs) (length (drop k xs ++ take k xs) - 1)) (slice_index (drop k xs ++ take k xs) 0)
  told_closes i r =
      let long = length-told in
      let last : length (drop k xs ++ take k xs) - 1 ≡ length xs - 1 = omega arith in
      elim (cases_eq k 0) [
        | inl is ↦ Leads_as i _ _ (slice_index xs (length xs - 1)) (slice_index xs 0) (ap (slice_index (drop k xs ++ take k xs)) last ∙ told_low (length xs - 1) (length xs - 1) (omega arith) (omega arith)) (told_low 0 0 (omega arith) (omega arith)) r.closes
        | inr other ↦ Leads_as i _ _ (slice_index xs (k - 1)) (slice_index xs (k - 1 + 1)) (ap (slice_index (drop k xs ++ take k xs)) last ∙ told_high (length xs - 1) (k - 1) (omega arith) (omega arith)) (told_low 0 (k - 1 + 1) (omega arith) (omega arith)) (r.each (k - 1) (omega arith))
      ]

  -- where the j-th one of the told list stands in the list itself
  place_of : (j : ℕ) → j < length xs → (m : ℕ) × (m < length xs) × (slice_index (drop k xs ++ take k xs) j ≡ slice_index xs m) × ((k + j ≡ m) ⊎ (k + j ≡ length xs + m))
  place_of j h = elim (cases_order (k + j + 1) (length xs + 1)) [
    | inl is ↦ (0, omega arith, told_high j 0 (omega arith) (omega arith), inr (omega arith))
    | inr other ↦ elim other [
      | inl low ↦ (k + j, omega arith, told_low j (k + j) refl (omega arith), inl refl)
      | inr high ↦ (k + j - length xs, omega arith, told_high j (k + j - length xs) (omega arith) (omega arith), inr (omega arith))
    ]
  ]

  told_once : HasNoRepeats xs → HasNoRepeats (drop k xs ++ take k xs)
  told_once once a b lt inside same =
      let long = length-told in
      let p = place_of a (omega arith) in
      let q = place_of b (omega arith) in
      let e : slice_index xs p.0 ≡ slice_index xs q.0 = sym p.2 ∙ same ∙ q.2 in
      elim (cases_order p.0 q.0) [
        | inl is ↦ omega (arith, p.3, q.3)
        | inr other ↦ elim other [ inl low ↦ once p.0 q.0 low q.1 e | inr high ↦ once q.0 p.0 high p.1 (sym e) ]
      ]

  pub IsCycle_told : (i : Instance) → IsClosedWalk i xs → HasNoRepeats xs → IsFirstBest nat_lt xs (length xs) k → IsCycle i (drop k xs ++ take k xs)
  IsCycle_told i r once best =
      let long = length-told in
      record {
        walk = record { some = omega arith; each = told_each i r; closes = told_closes i r };
        once = told_once once;
        least_first = λ j h.
            let p = place_of j (omega arith) in
            let test = best.1 p.0 0 p.1 in
            let le : slice_index xs k ≤ slice_index xs p.0 = grind (arith, nat_tests) in
            let first = told_low 0 k (omega arith) within in
            omega (arith, first, p.2, le);
      }

-- who leads and who is led to are there
pub Leads_inside : (i : Instance) (p q : ℕ) → ((at : Place) → NamesWhatIsThere i at) → Leads i p q → (p < length i.processes) × (q < length i.processes)
Leads_inside i p q there (inl link) =
    let h = there (AtLink link.link) link.is_there in
    (rw link.before at h.0, rw link.after at h.1)
Leads_inside i p q there (inr message) =
    let h = there (AtMessage message.message) message.is_there in
    (rw message.sender at h.0, grind (arith, common_steps, h.1, message.receiver))

module _ (i : Instance) (turns : List ℕ) (there : (at : Place) → NamesWhatIsThere i at) (given : AreTurns i turns) (all : (p : ℕ) → p < length i.processes → 0 < slice_index turns p) where
  falls : (p q : ℕ) → Leads i p q → slice_index turns q < slice_index turns p
  falls p q leads = (given p q leads (all p (Leads_inside i p q there leads).0)).1

  falls_along : (ps : List ℕ) → IsClosedWalk i ps → (k : ℕ) → k < length ps → slice_index turns (slice_index ps k) + k ≤ slice_index turns (slice_index ps 0)
  falls_along ps r zero h = omega arith
  falls_along ps r (suc k) h =
      let before = falls_along ps r k (omega arith) in
      let step : slice_index turns (slice_index ps (k + 1)) < slice_index turns (slice_index ps k) = falls _ _ (r.each k (omega arith)) in
      rw (← add-one k) (omega arith)

  pub IsAcyclic_from : IsAcyclic i
  IsAcyclic_from ps r =
      let some = r.some in
      let last = falls_along ps r (length ps - 1) (omega arith) in
      let step : slice_index turns (slice_index ps 0) < slice_index turns (slice_index ps (length ps - 1)) = falls _ _ r.closes in
      omega arith
