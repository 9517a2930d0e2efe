-- The age of a chain in a plan is the greatest of those of its last process's jobs, and bounds on it are bounds on all of them.
use Rattle.std.proofs.Common.{◌≡◌, ℕ, ◌-◌, ◌<◌, ◌≤◌, List, length, All, arith, inr, sym, ap, subst}
use Rattle.std.proofs.lemmas.List.{set-get_or}
use Rattle.ttp_model.specs.declared.plan.Plan.{Plan}
use Rattle.ttp_model.specs.Instance.{Instance}
use Rattle.ttp_model.specs.Rules.{IsInstance}
use Rattle.ttp_model.specs.Plans.{IsValid}
use Rattle.ttp_model.proofs.ValidPlans.{greatest_each, greatest_reached}
use Rattle.rates_model.specs.declared.error.RatesPlace.TheVariants.{AtChain}
use Rattle.rates_model.specs.declared.parts.Chain.{Chain}
use Rattle.rates_model.specs.Rates.{Rates, chain_at, no_chain}
use Rattle.rates_model.specs.Cycles.{jobs_of}
use Rattle.rates_model.specs.Ages.{last_of}
use Rattle.rates_model.specs.Rules.{IsRates}
use Rattle.endless_schedules.specs.Unrolled.{unrolled}
use Rattle.endless_schedules.specs.Ages.{AreAgesWithin, IsAge}
use Rattle.endless_schedules.specs.Bounds.{with_age}
use Rattle.endless_schedules.proofs.Bounded.{valid_with_bound}
use Rattle.endless_schedules.proofs.ForEver.{age_of_top, some_job}
use Rattle.endless_schedules.proofs.Tops.{IsTop}
use Rattle.endless_schedules.specs.Aging.{aged, late_age, own_age}

module _ (rho : Rates) (x : ℕ) (w : IsRates rho) (inside : x < length rho.chains) where
  abbrev chain : Chain
  chain = chain_at rho x

  pub some_through : 0 < length chain.through
  some_through = let least = (w.throughs x inside).least in omega (arith, least)

  pub all_there : All (λ p. p < length rho.processes) chain.through
  all_there = w.indices (AtChain x) inside

  pub last_there : last_of chain < length rho.processes
  last_there = all_there (length chain.through - 1) 0 (omega (arith, some_through))

  abbrev count : ℕ
  count = jobs_of rho (last_of chain)

  pub some_last : (plan : Plan) → 0 < count
  some_last plan = some_job rho plan w (last_of chain) last_there

  module _ (plan : Plan) where
    top : IsTop (late_age rho plan chain) count (own_age rho x plan)
    top = record {
      above = greatest_each (late_age rho plan chain) count;
      seen = inr (greatest_reached (late_age rho plan chain) count (some_last plan));
    }

    pub own_is : IsAge rho plan chain (own_age rho x plan)
    own_is = age_of_top rho plan w chain some_through all_there (own_age rho x plan) top

    pub own_within : (most : ℕ) → AreAgesWithin rho plan chain most → own_age rho x plan ≤ most
    own_within most all = all (own_age rho x plan) own_is.one

    pub within_own : (most : ℕ) → own_age rho x plan ≤ most → AreAgesWithin rho plan chain most
    within_own most le age has = omega (arith, le, own_is.greatest age has)

    -- there is one greatest
    pub same_age : (age : ℕ) → IsAge rho plan chain age → age ≡ own_age rho x plan
    same_age age is =
        let below = own_is.greatest age is.one in
        let above = is.greatest (own_age rho x plan) own_is.one in
        omega (arith, below, above)

  -- with its own bound it is the cluster that it is
  own_bound : with_age rho x chain.age ≡ rho
  own_bound = ap (λ (chains : List Chain). record rho { chains = chains }) (set-get_or rho.chains x no_chain)

  pub own_instance : aged rho x chain.age ≡ unrolled rho
  own_instance = ap unrolled own_bound

  module _ (i : IsInstance (unrolled rho)) (plan : Plan) (age : ℕ) (less : age ≤ chain.age) where
    pub of_aged : IsValid (aged rho x age) plan → IsValid (unrolled rho) plan × (own_age rho x plan ≤ age)
    of_aged v =
        let both = (valid_with_bound rho plan x age w i inside less).0 v in
        (both.0, own_within plan age both.1)

    pub to_aged : IsValid (unrolled rho) plan → own_age rho x plan ≤ age → IsValid (aged rho x age) plan
    to_aged v le = (valid_with_bound rho plan x age w i inside less).1 (v, within_own plan age le)

  -- so no plan has more than the bound
  pub own-le_bound : IsInstance (unrolled rho) → (plan : Plan) → IsValid (unrolled rho) plan → own_age rho x plan ≤ chain.age
  own-le_bound i plan v = (of_aged i plan chain.age (omega arith) (subst (λ (it : Instance). IsValid it plan) (sym own_instance) v)).1
