-- By when a job has to end: within the whole rounds, by its own deadline, and as chains want it.
use Rattle.std.proofs.Common.{◌≡◌, ◌∙◌, ℕ, zero, suc, ◌+◌, ◌*◌, ◌<◌, ◌≤◌, ◌==◌, Bool, true, List, [], ◌∷◌, length, map, filter, min, fold, slice_index_or, All, Contains, arith, inl, inr, refl, sym, ap, eq-eqb}
use Rattle.std.proofs.lemmas.Bool.{eqb-true}
use Rattle.std.proofs.lemmas.List.{get_or_default}
use Rattle.std.proofs.lemmas.List.Elements.{All-cons, All-contains, All-map, Contains-get_or}
use Rattle.rates_model.specs.declared.parts.Chain.{Chain}
use Rattle.rates_model.specs.Rates.{Rates, chain_at, no_chain, period_of, process_at}
use Rattle.rates_model.specs.Cycles.{horizon_of}
use Rattle.rates_model.specs.Ages.{age_deadline, last_of}
use Rattle.endless_schedules.specs.Times.{age_deadlines, job_deadline}
use Rattle.endless_schedules.proofs.Members.{All-filter, Contains-filter, Contains-map}

-- at most the least of some numbers is at most each
pub below_least : (x h : ℕ) (xs : List ℕ) → x ≤ fold min h xs → (x ≤ h) × All (λ y. x ≤ y) xs
below_least x h [] le = (le, λ k d inside. absurd (omega (arith, inside)))
below_least x h (y ∷ ys) le =
    let rest = below_least x (min h y) ys le in
    (omega (arith, rest.0), All-cons (λ z. x ≤ z) y ys (omega (arith, rest.0)) rest.1)

pub below_each : (x h : ℕ) (xs : List ℕ) → x ≤ h → All (λ y. x ≤ y) xs → x ≤ fold min h xs
below_each x h [] le each = le
below_each x h (y ∷ ys) le each =
    let first : x ≤ y = each 0 y (omega arith) in
    below_each x (min h y) ys (omega (arith, le, first)) (λ k d inside. each (suc k) d (omega (arith, inside)))

-- the last process of a chain is to end a job by then
abbrev pub EndsYoung : Rates → ℕ → ℕ → ℕ → Type 0
EndsYoung rho p k x = (chain : ℕ) → chain < length rho.chains → last_of (chain_at rho chain) ≡ p → x ≤ age_deadline rho (chain_at rho chain) k

module _ (rho : Rates) (p k x : ℕ) where
  -- the last process of a chain is this one
  abbrev ends_here : Chain → Bool
  ends_here chain = last_of chain == p

  pub in_time_tells : x ≤ job_deadline rho p k → (x ≤ horizon_of rho) × (x ≤ k * period_of rho p + (process_at rho p).deadline) × EndsYoung rho p k x
  unfolding job_deadline
  in_time_tells le =
      let own = k * period_of rho p + (process_at rho p).deadline in
      let all = below_least x (horizon_of rho) (own ∷ age_deadlines rho p k) le in
      (all.0, all.1 0 0 (omega arith), λ chain inside last. young all.1 chain inside last)
    where
      young : All (λ y. x ≤ y) ((k * period_of rho p + (process_at rho p).deadline) ∷ age_deadlines rho p k) → EndsYoung rho p k x
      young all chain inside last =
          let has = Contains-map (λ it. age_deadline rho it k) (filter ends_here rho.chains) (chain_at rho chain)
          (Contains-filter ends_here rho.chains (chain_at rho chain) (Contains-get_or rho.chains chain no_chain inside) (eq-eqb _ _ last)) in
          All-contains (λ y. x ≤ y) (age_deadlines rho p k) (age_deadline rho (chain_at rho chain) k) (λ j d below. all (suc j) d (omega (arith, below))) has

  pub in_time_from : x ≤ horizon_of rho → x ≤ k * period_of rho p + (process_at rho p).deadline → EndsYoung rho p k x → x ≤ job_deadline rho p k
  unfolding job_deadline
  in_time_from within own young = below_each x (horizon_of rho) ((k * period_of rho p + (process_at rho p).deadline) ∷ age_deadlines rho p k) within each
    where
      each_chain : All (λ (chain : Chain). ends_here chain ≡ true → x ≤ age_deadline rho chain k) rho.chains
      each_chain place d inside passes =
          let is : slice_index_or rho.chains place d ≡ chain_at rho place = get_or_default rho.chains place d no_chain inside in
          rw is (young place inside (eqb-true _ _ (rw is at passes)))

      each : All (λ y. x ≤ y) ((k * period_of rho p + (process_at rho p).deadline) ∷ age_deadlines rho p k)
      each zero d inside = own
      each (suc place) d inside =
          All-map (λ y. x ≤ y) (λ it. age_deadline rho it k) (filter ends_here rho.chains)
          (All-filter (λ it. x ≤ age_deadline rho it k) ends_here rho.chains each_chain) place d (omega (arith, inside))
