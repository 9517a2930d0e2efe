-- The first fits, trail by trail, and with each the rounds that divide the period one after another.
use Rattle.std.proofs.Common.{◌≡◌, ◌⊎◌, ◌∙◌, ℕ, zero, suc, ◌+◌, ◌<◌, ◌≤◌, List, [], ◌∷◌, ◌++◌, All, AllPairs, Contains, take, length, slice_index, slice_index_or, arith, inl, inr, refl, sym, get_or-take, length-take}
use Rattle.std.proofs.Math.Nat.{mod-zero}
use Rattle.std.proofs.lemmas.Bool.{cases_eq, cases_lt}
use Rattle.std.proofs.lemmas.List.{get_or_default, take_all, take_more}
use Rattle.std.proofs.lemmas.List.Elements.{All-weaker, Contains-append_left, Contains-push, Contains-push_cases}
use Rattle.std.proofs.lemmas.Nat.Gcd.{dvd_of_mod-eq-zero, le_of_dvd}
use Rattle.ttp_model.specs.Limits.{most_bus_ticks}
use Rattle.ttp_model.specs.Instance.{Instance}
use Rattle.plan_cycles.specs.declared.fits.Fit.{Fit}
use Rattle.plan_cycles.specs.Divisors.{AreDivisors, Divides}
use Rattle.plan_cycles.specs.Fits.{AreFirst, AreFirstFits, CanTake, GoesBefore, IsFit, IsFitBefore, IsFitWith, most_fits}
use Rattle.plan_cycles.proofs.FirstFits.{first_full, first_more, first_of_none, first_same}

-- what divides a period is some ticks, and no more than it
divisor_inside : (period round : ℕ) → 0 < period → Divides round period → (0 < round) × (round < period + 1)
divisor_inside period zero some divides = absurd (omega (arith, some, divides, mod-zero period))
divisor_inside period (suc round) some divides = (omega arith, omega (arith, le_of_dvd some (dvd_of_mod-eq-zero (suc round) divides)))

-- what stands before a place of a rising list is less than what stands there or behind
below_place : (rounds : List ℕ) (k j x : ℕ) → AllPairs (λ one other. one < other) rounds → Contains (take k rounds) x → k ≤ j → j < length rounds → x < slice_index rounds j
below_place rounds k j x rising among le inside =
    let before : among.0 < k = omega (arith, among.1, length-take k rounds) in
    let less = rising among.0 j x (omega (arith, before, le)) inside in
    omega (arith, less, get_or-take k rounds among.0 x before, among.2, get_or_default rounds j x 0 inside)

-- what stands before a place stands in the part up to it
before_place : (rounds : List ℕ) (k j x : ℕ) → j < k → j < length rounds → slice_index_or rounds j x ≡ x → Contains (take k rounds) x
before_place rounds k j x less inside is = (j, omega (arith, less, inside, length-take k rounds), get_or-take k rounds j x less ∙ is)

module _ (i : Instance) (period trail : ℕ) (rounds : List ℕ) where
  abbrev With : ℕ → Fit → Type 0
  With k = IsFitWith i period trail (take k rounds)

  with_more : (k : ℕ) → k < length rounds → (fit : Fit) → With k fit → With (k + 1) fit
  with_more k inside fit (is, inl less) = (is, inl less)
  with_more k inside fit (is, inr same) = (is, inr (same.0, rw (take_more rounds k 0 inside) (Contains-append_left (take k rounds) (slice_index rounds k ∷ []) fit.round same.1)))

  -- the round at that place is the one of which it holds besides
  with_next : (k : ℕ) → k < length rounds → (fit : Fit) → With (k + 1) fit → With k fit ⊎ ((fit.trail ≡ trail) × (fit.round ≡ slice_index rounds k))
  with_next k inside fit (is, inl less) = inl (is, inl less)
  with_next k inside fit (is, inr same) = elim (Contains-push_cases (take k rounds) (slice_index rounds k) fit.round (rw (take_more rounds k 0 inside) at same.1)) [
    | inl among ↦ inl (is, inr (same.0, among))
    | inr last ↦ inr (same.0, sym last)
  ]

  module _ (fits : List Fit) where
    pub begun : AreFirst (IsFitBefore i period trail) fits → AreFirst (With 0) fits
    begun are = first_same (IsFitBefore i period trail) (With 0) fits are (λ fit is. (is.0, inl is.1)) less
      where
        less : (fit : Fit) → With 0 fit → IsFitBefore i period trail fit
        less fit (is, inl below) = (is, below)
        less fit (is, inr same) = absurd (omega (arith, same.1.1, length-take 0 rounds))

    module _ (k : ℕ) (inside : k < length rounds) (are : AreFirst (With k) fits) where
      -- no capacities make that round
      pub round_left : ¬ CanTake i trail (slice_index rounds k) → AreFirst (With (k + 1)) fits
      round_left cannot = first_same (With k) (With (k + 1)) fits are (with_more k inside) less
        where
          less : (fit : Fit) → With (k + 1) fit → With k fit
          less fit held = elim (with_next k inside fit held) [
            | inl holds ↦ holds
            | inr next ↦ absurd (cannot (rw (← next.0, ← next.1) held.0.can_take))
          ]

      -- some do
      module _ (divisors : AreDivisors period (period + 1) rounds) where
        behind_place : (fit : Fit) (j : ℕ) → fit.trail ≡ trail → k ≤ j → j < length rounds → fit.round ≡ slice_index rounds j → All (λ told. GoesBefore told fit) fits
        behind_place fit j here le there is = All-weaker (With k) (λ told. GoesBefore told fit) goes fits are.each
          where
            goes : (told : Fit) → With k told → GoesBefore told fit
            goes told (holds, inl less) = inl (omega (arith, less, here))
            goes told (holds, inr same) = inr (omega (arith, same.0, here), omega (arith, below_place rounds k j told.round divisors.rising same.1 le there, is))

        abbrev next : Fit
        next = record { trail = trail; round = slice_index rounds k }

        pub round_taken : i.cluster.trail ≤ trail → trail ≤ most_bus_ticks → length fits < most_fits → CanTake i trail (slice_index rounds k) → AreFirst (With (k + 1)) (fits ++ next ∷ [])
        round_taken least most room can = first_more (With k) (With (k + 1)) fits are (with_more k inside) next room held (behind_place next k refl (omega arith) inside refl) known
          where
            held : With (k + 1) next
            held = (
              record { least = least; most = most; can_take = can; divides = divisors.each k 0 inside },
              inr (refl, rw (take_more rounds k 0 inside) (Contains-push (take k rounds) (slice_index rounds k))),
            )

            one : (a b : ℕ) → a ≡ trail → b ≡ slice_index rounds k → (record { trail = a; round = b }) ≡ next
            one a b first second = rw (first, second) refl

            known : (fit : Fit) → With (k + 1) fit → With k fit ⊎ (fit ≡ next)
            known fit is = elim (with_next k inside fit is) [ inl holds ↦ inl holds | inr same ↦ inr (one fit.trail fit.round same.0 same.1) ]

        -- there is room for no more
        pub full_within : 0 < period → length fits ≡ most_fits → AreFirst (IsFitBefore i period (trail + 1)) fits
        full_within some full = first_full (With k) (IsFitBefore i period (trail + 1)) fits are more full behind
          where
            more : (fit : Fit) → With k fit → IsFitBefore i period (trail + 1) fit
            more fit (is, inl less) = (is, omega (arith, less))
            more fit (is, inr same) = (is, omega (arith, same.0))

            behind : (fit : Fit) → IsFitBefore i period (trail + 1) fit → With k fit ⊎ All (λ told. GoesBefore told fit) fits
            behind fit held = elim (cases_eq fit.trail trail) [
              | inr other ↦ inl (held.0, inl (omega (arith, held.1, other)))
              | inl here ↦
                  let ticks = divisor_inside period fit.round some held.0.divides in
                  let place = divisors.all fit.round ticks.0 ticks.1 held.0.divides in
                  elim (cases_lt place.0 k) [
                    | inl less ↦ inl (held.0, inr (here, before_place rounds k place.0 fit.round less place.1 place.2))
                    | inr le ↦ inr (behind_place fit place.0 here le place.1 (sym place.2 ∙ get_or_default rounds place.0 fit.round 0 place.1))
                  ]
            ]

    -- all rounds are tried
    pub trail_done : (k : ℕ) → length rounds ≤ k → 0 < period → AreDivisors period (period + 1) rounds → AreFirst (With k) fits → AreFirst (IsFitBefore i period (trail + 1)) fits
    trail_done k all some divisors are = first_same (With k) (IsFitBefore i period (trail + 1)) fits are more less
      where
        more : (fit : Fit) → With k fit → IsFitBefore i period (trail + 1) fit
        more fit (is, inl below) = (is, omega (arith, below))
        more fit (is, inr same) = (is, omega (arith, same.0))

        less : (fit : Fit) → IsFitBefore i period (trail + 1) fit → With k fit
        less fit held = elim (cases_eq fit.trail trail) [
          | inr other ↦ (held.0, inl (omega (arith, held.1, other)))
          | inl here ↦
              let ticks = divisor_inside period fit.round some held.0.divides in
              (held.0, inr (here, rw (take_all k rounds all) (divisors.all fit.round ticks.0 ticks.1 held.0.divides)))
        ]

module _ (i : Instance) (period : ℕ) where
  -- no trail is shorter than the instance's own
  pub no_trail : AreFirst (IsFitBefore i period i.cluster.trail) []
  no_trail = first_of_none (IsFitBefore i period i.cluster.trail) (λ fit is. omega (arith, is.0.least, is.1))

  module _ (trail : ℕ) (fits : List Fit) (are : AreFirst (IsFitBefore i period trail) fits) where
    pub all_trails : most_bus_ticks < trail → AreFirstFits i period fits
    all_trails past = first_same (IsFitBefore i period trail) (IsFit i period) fits are (λ fit is. is.0) (λ fit is. (is, omega (arith, is.most, past)))

    pub full_fits : length fits ≡ most_fits → AreFirstFits i period fits
    full_fits full = first_full (IsFitBefore i period trail) (IsFit i period) fits are (λ fit is. is.0) full behind
      where
        behind : (fit : Fit) → IsFit i period fit → IsFitBefore i period trail fit ⊎ All (λ told. GoesBefore told fit) fits
        behind fit is = elim (cases_lt fit.trail trail) [
          | inl less ↦ inl (is, less)
          | inr le ↦ inr (All-weaker (IsFitBefore i period trail) (λ told. GoesBefore told fit) (λ told known. inl (omega (arith, known.1, le))) fits are.each)
        ]
