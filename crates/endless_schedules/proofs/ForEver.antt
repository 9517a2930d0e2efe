-- What holds of a job in one cycle holds in all: when it starts in its period, when it ends, and how old what it carries is.
use Rattle.std.proofs.Common.{◌≡◌, ◌∙◌, ℕ, ◌+◌, ◌-◌, ◌*◌, ◌<◌, ◌≤◌, length, slice_index, All, arith, refl, sym, ap}
use Rattle.ttp_model.specs.declared.plan.Plan.{Plan}
use Rattle.ttp_model.specs.Plans.{IsValid}
use Rattle.rates_model.specs.declared.parts.Chain.{Chain}
use Rattle.rates_model.specs.Rates.{Rates, period_of, process_at}
use Rattle.rates_model.specs.Cycles.{cycle, jobs_of}
use Rattle.rates_model.specs.Reads.{job_from_all}
use Rattle.rates_model.specs.Ages.{carried, cycles_back, first_of, last_of, release_from_all}
use Rattle.rates_model.specs.Rules.{IsRates}
use Rattle.rates_model.proofs.Periods.{cycle_common, jobs_whole}
use Rattle.endless_schedules.specs.Unrolled.{unrolled}
use Rattle.endless_schedules.specs.Carried.{Carries}
use Rattle.endless_schedules.specs.Runs.{Job, place_of}
use Rattle.endless_schedules.proofs.Chains.{carries_later, far_enough, last_is, one_carried, some_jobs}
use Rattle.endless_schedules.proofs.RunPlaces.{place_inside, released_from}
use Rattle.endless_schedules.specs.Ages.{HasAge, IsAge, age_at}
use Rattle.endless_schedules.specs.Spreads.{IsJitter, IsResponse, response_at, start_in_period}
use Rattle.endless_schedules.proofs.Tops.{IsBottom, IsTop, some_seen}

-- when a job starts in its period, in the first cycle
abbrev pub first_start : Rates → Plan → ℕ → ℕ → ℕ
first_start rho plan p k = start_in_period rho plan 0 p k

-- the job of its first process, from all, whose value job j of a chain's last one carries, so late that nothing is before all
abbrev pub carried_late : Rates → Chain → ℕ → ℕ
carried_late rho chain j = carried rho chain.through (job_from_all rho (last_of chain) (cycles_back chain) j)

-- how old it is
abbrev pub late_age : Rates → Plan → Chain → ℕ → ℕ
late_age rho plan chain j = age_at rho plan chain (cycles_back chain) j (carried_late rho chain j)

module _ (rho : Rates) (plan : Plan) (w : IsRates rho) where
  -- there is a job
  pub some_job : (p : ℕ) → p < length rho.processes → 0 < jobs_of rho p
  some_job = some_jobs rho w (cycle_common rho w).some

  -- what a chain carries, so late that nothing is before all
  module _ (chain : Chain) (some : 0 < length chain.through) (there : All (λ p. p < length rho.processes) chain.through) where
    first_there : first_of chain < length rho.processes
    first_there = there 0 0 some

    last_there : last_of chain < length rho.processes
    last_there = there (length chain.through - 1) 0 (omega (arith, some))

    far : (j : ℕ) → Carries rho chain.through (job_from_all rho (last_of chain) (cycles_back chain) j) (carried_late rho chain j)
    far j = (far_enough rho w (cycle_common rho w).some chain.through (last_of chain) (last_is chain.through some) there (length chain.through)
        (job_from_all rho (last_of chain) (cycles_back chain) j) (omega arith)).0

    -- it is as old in each cycle
    same_age : (c j k : ℕ) → Carries rho chain.through (job_from_all rho (last_of chain) c j) k → age_at rho plan chain c j k ≡ late_age rho plan chain j
    same_age c j k has =
        let xs = chain.through in
        let l = last_of chain in
        let first = first_of chain in
        let back = cycles_back chain in
        let here = carries_later rho w xs l (last_is xs some) there c (job_from_all rho l back j) (carried_late rho chain j) (far j) in
        let later = carries_later rho w xs l (last_is xs some) there back (job_from_all rho l c j) k has in
        let same : c * jobs_of rho first + carried_late rho chain j ≡ back * jobs_of rho first + k = one_carried rho w xs (c * jobs_of rho l + job_from_all rho l back j) (back * jobs_of rho l + job_from_all rho l c j)
        (c * jobs_of rho first + carried_late rho chain j) (back * jobs_of rho first + k) (omega arith) here later in
        let ticks : (c * jobs_of rho first + carried_late rho chain j) * period_of rho first ≡ (back * jobs_of rho first + k) * period_of rho first = ap (λ x. x * period_of rho first) same in
        let one : c * (jobs_of rho first * period_of rho first) ≡ c * cycle rho = ap (λ x. c * x) (jobs_whole rho w first first_there) in
        let two : back * (jobs_of rho first * period_of rho first) ≡ back * cycle rho = ap (λ x. back * x) (jobs_whole rho w first first_there) in
        let moved : back * cycle rho + release_from_all rho first k ≡ c * cycle rho + release_from_all rho first (carried_late rho chain j) = omega (arith, ticks, one, two) in
        omega (arith, moved)

    pub age_is_late : (age : ℕ) (has : HasAge rho plan chain age) → age ≡ late_age rho plan chain has.job
    age_is_late age has = has.is ∙ same_age has.cycle has.job has.first has.carries

    pub has_late_age : (j : ℕ) → j < jobs_of rho (last_of chain) → HasAge rho plan chain (late_age rho plan chain j)
    has_late_age j inside = record { cycle = cycles_back chain; job = j; first = carried_late rho chain j; there = inside; carries = far j; is = refl }

    -- the greatest over the jobs of that cycle is the age
    pub age_of_top : (age : ℕ) → IsTop (late_age rho plan chain) (jobs_of rho (last_of chain)) age → IsAge rho plan chain age
    age_of_top age top =
        let seen = some_seen (late_age rho plan chain) (jobs_of rho (last_of chain)) age 0 (some_job (last_of chain) last_there) top.seen in
        record {
          one = record { cycle = cycles_back chain; job = seen.0; first = carried_late rho chain seen.0; there = seen.1; carries = far seen.0; is = sym seen.2 };
          greatest = λ y has. omega (arith, age_is_late y has, top.above has.job has.there);
        }

  -- when the jobs of a process start and end
  module _ (p : ℕ) (inside : p < length rho.processes) (v : IsValid (unrolled rho) plan) where
    start_is : (c k : ℕ) → start_in_period rho plan c p k ≡ first_start rho plan p k
    start_is c k = omega arith

    released : (k : ℕ) → k < jobs_of rho p → k * period_of rho p + (process_at rho p).release ≤ slice_index plan.starts (place_of rho (Job p k))
    released k there =
        let own = v.released (place_of rho (Job p k)) (place_inside rho (Job p k) (inside, there)) in
        omega (arith, own, released_from rho p k (inside, there))

    -- it ends as long after its release
    response_is : (c k : ℕ) → k < jobs_of rho p → response_at rho plan c p k ≡ first_start rho plan p k + (process_at rho p).wcet - (process_at rho p).release
    response_is c k there = omega (arith, released k there)

    pub jitter_of : (earliest latest jitter most : ℕ) → IsBottom (first_start rho plan p) most (jobs_of rho p) earliest → IsTop (first_start rho plan p) (jobs_of rho p) latest → jitter ≡ latest - earliest
        → IsJitter rho plan p jitter
    jitter_of earliest latest jitter most bottom top is =
        let some = some_job p inside in
        let low = some_seen (first_start rho plan p) (jobs_of rho p) earliest most some bottom.seen in
        let high = some_seen (first_start rho plan p) (jobs_of rho p) latest 0 some top.seen in
        record {
          earliest = earliest;
          latest = latest;
          least = record {
            one = record { cycle = 0; job = low.0; there = (inside, low.1); is = sym low.2 };
            least = λ y has. omega (arith, has.is, start_is has.cycle has.job, bottom.below has.job has.there.1);
          };
          greatest = record {
            one = record { cycle = 0; job = high.0; there = (inside, high.1); is = sym high.2 };
            greatest = λ y has. omega (arith, has.is, start_is has.cycle has.job, top.above has.job has.there.1);
          };
          is = omega (arith, is, high.2, bottom.below high.0 high.1);
        }

    pub response_of : (latest response : ℕ) → IsTop (first_start rho plan p) (jobs_of rho p) latest → response ≡ latest + (process_at rho p).wcet - (process_at rho p).release
        → IsResponse rho plan p response
    response_of latest response top is =
        let high = some_seen (first_start rho plan p) (jobs_of rho p) latest 0 (some_job p inside) top.seen in
        record {
          one = record { cycle = 0; job = high.0; there = (inside, high.1); is = omega (arith, is, high.2, response_is 0 high.0 high.1) };
          greatest = λ y has. omega (arith, is, has.is, response_is has.cycle has.job has.there.1, top.above has.job has.there.1);
        }
