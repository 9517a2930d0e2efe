-- By when jobs have to end with another bound on a chain's age.
use Rattle.std.proofs.Common.{◌≡◌, ◌≢◌, ◌∙◌, ℕ, ◌<◌, ◌≤◌, length, min, arith, inl, inr, refl, sym, subst}
use Rattle.std.proofs.lemmas.Bool.{cases_eq}
use Rattle.rates_model.specs.declared.parts.Chain.{Chain}
use Rattle.rates_model.specs.Rates.{Rates, chain_at}
use Rattle.rates_model.specs.Ages.{age_deadline, last_of}
use Rattle.endless_schedules.specs.Times.{job_deadline}
use Rattle.endless_schedules.proofs.KeptDeadlines.{EndsYoung, in_time_from, in_time_tells}
use Rattle.endless_schedules.specs.Bounds.{with_age}
use Rattle.endless_schedules.proofs.OtherBounds.{chains_many, deadline_of_it, deadline_of_others, horizon_same, last_same}
use Rattle.endless_schedules.specs.Aging.{latest_end}

module _ (rho : Rates) (x age : ℕ) (inside : x < length rho.chains) (less : age ≤ (chain_at rho x).age) where
  abbrev other : Rates
  other = with_age rho x age

  abbrev chain : Chain
  chain = chain_at rho x

  -- what chains want of a job's end
  young_in : (p k t : ℕ) → EndsYoung rho p k t → (last_of chain ≡ p → t ≤ latest_end rho chain age k) → EndsYoung other p k t
  young_in p k t young own y there last =
      let here : y < length rho.chains = omega (arith, there, chains_many rho x age) in
      let ends_here : last_of (chain_at rho y) ≡ p = sym (last_same rho x age y inside) ∙ last in
      elim (cases_eq y x) [
        | inl same ↦
            let at_x = own (subst (λ (z : ℕ). last_of (chain_at rho z) ≡ p) same ends_here) in
            subst (λ (z : ℕ). t ≤ age_deadline other (chain_at other z) k) (sym same) (omega (arith, at_x, deadline_of_it rho x age k inside))
        | inr differs ↦ omega (arith, young y here ends_here, deadline_of_others rho x age y k differs)
      ]

  young_own : (p k t : ℕ) → EndsYoung other p k t → last_of chain ≡ p → t ≤ latest_end rho chain age k
  young_own p k t young last =
      let by = young x (omega (arith, inside, chains_many rho x age)) (last_same rho x age x inside ∙ last) in
      omega (arith, by, deadline_of_it rho x age k inside)

  young_back : (p k t : ℕ) → EndsYoung other p k t → EndsYoung rho p k t
  young_back p k t young y there last =
      let by = young y (omega (arith, there, chains_many rho x age)) (last_same rho x age y inside ∙ last) in
      elim (cases_eq y x) [
        | inl same ↦
            let own : t ≤ latest_end rho chain age k = young_own p k t young (subst (λ (z : ℕ). last_of (chain_at rho z) ≡ p) same last) in
            subst (λ (z : ℕ). t ≤ age_deadline rho (chain_at rho z) k) (sym same) (omega (arith, own, less))
        | inr differs ↦ omega (arith, by, deadline_of_others rho x age y k differs)
      ]

  -- a tick by which a job has to end, with the one bound and the other
  pub ends_in : (p k t : ℕ) → t ≤ job_deadline rho p k → (last_of chain ≡ p → t ≤ latest_end rho chain age k) → t ≤ job_deadline other p k
  ends_in p k t le own =
      let tells = in_time_tells rho p k t le in
      in_time_from other p k t (omega (arith, tells.0, horizon_same rho x age)) tells.1 (young_in p k t tells.2 own)

  pub ends_back : (p k t : ℕ) → t ≤ job_deadline other p k → (t ≤ job_deadline rho p k) × (last_of chain ≡ p → t ≤ latest_end rho chain age k)
  ends_back p k t le =
      let tells = in_time_tells other p k t le in
      (in_time_from rho p k t (omega (arith, tells.0, horizon_same rho x age)) tells.1 (young_back p k t tells.2), young_own p k t tells.2)

  -- of the last process the least of two, and of others as it was
  pub last_deadline : (k : ℕ) → job_deadline other (last_of chain) k ≡ min (job_deadline rho (last_of chain) k) (latest_end rho chain age k)
  last_deadline k =
      let l = last_of chain in
      let back = ends_back l k (job_deadline other l k) (omega arith) in
      let least = min (job_deadline rho l k) (latest_end rho chain age k) in
      let in_it : least ≤ job_deadline other l k = ends_in l k least (omega arith) (λ same. omega arith) in
      omega (arith, back.0, back.1 refl, in_it)

  pub other_deadline : (p k : ℕ) → last_of chain ≢ p → job_deadline other p k ≡ job_deadline rho p k
  other_deadline p k differs =
      let back = ends_back p k (job_deadline other p k) (omega arith) in
      let in_it : job_deadline rho p k ≤ job_deadline other p k = ends_in p k (job_deadline rho p k) (omega arith) (λ same. absurd (differs same)) in
      omega (arith, back.0, in_it)
