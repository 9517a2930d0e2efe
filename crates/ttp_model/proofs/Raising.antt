-- The last of many times, as they are seen one after another.
use Rattle.std.proofs.Common.{◌≡◌, ℕ, zero, suc, ◌+◌, ◌<◌, ◌≤◌, ◌⊎◌, max, arith, inl, inr, refl, subst, add-one, below_more}
use Rattle.std.proofs.lemmas.Bool.{cases_lt}
use Rattle.ttp_model.specs.Raising.{IsRaised}
use Rattle.ttp_model.proofs.Decide.{Decision}

module _ (P : ℕ → Type 0) (time_of : ℕ → ℕ) (floor : ℕ) where
  -- there is none yet
  pub raised_none : IsRaised 0 P time_of floor floor
  raised_none = record { least = omega arith; each = λ k lt. absurd (omega (arith, lt)); met = inl refl }

  module _ (n time : ℕ) (r : IsRaised n P time_of floor time) where
    before : ((time ≡ floor) ⊎ ((k : ℕ) × (k < n) × (P k × (time_of k ≡ time)))) → (time ≡ floor) ⊎ ((k : ℕ) × (k < n + 1) × (P k × (time_of k ≡ time)))
    before (inl is) = inl is
    before (inr is) = inr (is.0, omega (arith, is.1), is.2)

    -- the next isn't asked for, or is no later
    pub raised_same : (P n → time_of n ≤ time) → IsRaised (n + 1) P time_of floor time
    raised_same no_later = record {
      least = r.least;
      each = below_more (λ k. P k → time_of k ≤ time) n r.each no_later;
      met = before r.met;
    }

    -- it is
    pub raised_more : P n → IsRaised (n + 1) P time_of floor (max time (time_of n))
    raised_more holds = record {
      least = omega (arith, r.least);
      each = below_more (λ k. P k → time_of k ≤ max time (time_of n)) n (λ k lt is. omega (arith, r.each k lt is)) (λ _. omega arith);
      met = elim (cases_lt time (time_of n)) [
        | inl later ↦ inr (n, omega arith, (holds, omega (arith, later)))
        | inr sooner ↦
            let same : time ≡ max time (time_of n) = omega (arith, sooner) in
            subst (λ (t : ℕ). (t ≡ floor) ⊎ ((k : ℕ) × (k < n + 1) × (P k × (time_of k ≡ t)))) same (before r.met)
      ];
    }

    -- it is, and is later
    pub raised_later : P n → time < time_of n → IsRaised (n + 1) P time_of floor (time_of n)
    raised_later holds later = let most : max time (time_of n) ≡ time_of n = omega (arith, later) in rw most at (raised_more holds)

  -- all were seen
  pub raised_all : (count n time : ℕ) → n ≡ count → IsRaised n P time_of floor time → IsRaised count P time_of floor time
  raised_all count n time all r = subst (λ (m : ℕ). IsRaised m P time_of floor time) all r

  -- it is raised no further than it has to be
  pub raised_least : (count time other : ℕ) → IsRaised count P time_of floor time → floor ≤ other → ((k : ℕ) → k < count → P k → time_of k ≤ other) → time ≤ other
  raised_least count time other r low each = elim r.met [
    | inl is ↦ omega (arith, is, low)
    | inr is ↦ omega (arith, is.2.1, each is.0 is.1 is.2.0)
  ]

  -- there is such a time, where each can be told
  pub raised_of : (count : ℕ) → ((k : ℕ) → Decision (P k)) → (time : ℕ) × IsRaised count P time_of floor time
  raised_of zero tell = (floor, raised_none)
  raised_of (suc count) tell =
      let rest = raised_of count tell in
      elim (tell count) [
        | inl is ↦ (max rest.0 (time_of count), rw add-one at (raised_more count rest.0 rest.1 is))
        | inr not_it ↦ (rest.0, rw add-one at (raised_same count rest.0 rest.1 (λ is. absurd (not_it is))))
      ]
