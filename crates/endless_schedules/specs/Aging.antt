-- The instance of one cycle with another bound on a chain's age, how old what the chain carries is in a plan, and how old it has to be
-- for its last process's jobs to have room. Times are ticks.
use Rattle.std.specs.Prelude.{◌≡◌, ℕ, ◌+◌, ◌-◌, ◌*◌, ◌<◌, length, map}
use Rattle.std.specs.List.{range_with_len}
use Rattle.ttp_model.specs.declared.plan.Plan.{Plan}
use Rattle.ttp_model.specs.Lists.{greatest}
use Rattle.ttp_model.specs.Instance.{Instance}
use Rattle.ttp_model.specs.Totals.{total}
use Rattle.rates_model.specs.declared.parts.Chain.{Chain}
use Rattle.rates_model.specs.Rates.{Rates, chain_at, period_of, process_at}
use Rattle.rates_model.specs.Cycles.{cycle, jobs_of}
use Rattle.rates_model.specs.Reads.{job_from_all}
use Rattle.rates_model.specs.Ages.{carried, cycles_back, last_of}
use Rattle.endless_schedules.specs.Times.{carried_release, waits_along}
use Rattle.endless_schedules.specs.Unrolled.{unrolled}
use Rattle.endless_schedules.specs.Ages.{age_at}
use Rattle.endless_schedules.specs.Bounds.{with_age}
use Rattle.endless_schedules.specs.declared.aging.Aging.{Aging}

-- the instance of one cycle in which what chain x carries may be so old
abbrev pub aged : Rates → ℕ → ℕ → Instance
aged rho x age = unrolled (with_age rho x age)

-- what is known of a cluster and one of its chains: the instance of one cycle, what waits along the chain, and where its last jobs stand
pub record IsAging (a : Aging) : Type 0 where
  pub there : a.chain < length a.rates.now.chains
  pub base : a.base.now ≡ unrolled a.rates.now
  pub waits : a.waits ≡ waits_along a.rates.now (chain_at a.rates.now a.chain).through
  pub first : a.first ≡ total (jobs_of a.rates.now) (last_of (chain_at a.rates.now a.chain))

-- how old what job k of the last process carries is in a plan, so late that nothing is before all
abbrev pub late_age : Rates → Plan → Chain → ℕ → ℕ
late_age rho plan chain k = age_at rho plan chain (cycles_back chain) k (carried rho chain.through (job_from_all rho (last_of chain) (cycles_back chain) k))

-- the greatest of these: the age of the chain
abbrev pub own_age : Rates → ℕ → Plan → ℕ
own_age rho x plan = greatest (map (late_age rho plan (chain_at rho x)) (range_with_len 0 (jobs_of rho (last_of (chain_at rho x)))))

-- when job k of a process ends that starts at its release
abbrev pub earliest_end : Rates → ℕ → ℕ → ℕ
earliest_end rho p k = k * period_of rho p + (process_at rho p).release + (process_at rho p).wcet

-- how old what job k of the last process carries is then
abbrev pub window_of : Rates → Chain → ℕ → ℕ
window_of rho chain k = cycles_back chain * cycle rho + earliest_end rho (last_of chain) k - carried_release rho chain k

-- the least age with which each of these jobs has room
abbrev pub window_age : Rates → ℕ → ℕ
window_age rho x = greatest (map (window_of rho (chain_at rho x)) (range_with_len 0 (jobs_of rho (last_of (chain_at rho x)))))

-- by when job k of the last process has to end with an age; 0 where that would be before its cycle
abbrev pub latest_end : Rates → Chain → ℕ → ℕ → ℕ
latest_end rho chain age k = age + carried_release rho chain k - cycles_back chain * cycle rho
