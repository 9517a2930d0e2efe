-- When the jobs of a process start and end, over all cycles, counted from their own periods and releases, in ticks. A valid plan
-- starts no job before its release.
use Rattle.std.specs.Prelude.{◌≡◌, ℕ, ◌+◌, ◌-◌}
use Rattle.ttp_model.specs.declared.plan.Plan.{Plan}
use Rattle.rates_model.specs.Rates.{Rates, process_at}
use Rattle.endless_schedules.specs.Runs.{IsRun, Job, ends_at, starts_at}
use Rattle.endless_schedules.specs.Endless.{begins_at}
use Rattle.endless_schedules.specs.declared.spreads.Spread.{Spread}
use Rattle.endless_schedules.specs.Extremes.{IsGreatest, IsLeast}

-- how long after the begin of its period job k of a process starts in cycle c
abbrev pub start_in_period : Rates → Plan → ℕ → ℕ → ℕ → ℕ
start_in_period rho plan c p k = starts_at rho plan c (Job p k) - begins_at rho c p k

-- how long after its release it ends
abbrev pub response_at : Rates → Plan → ℕ → ℕ → ℕ → ℕ
response_at rho plan c p k = ends_at rho plan c (Job p k) - (begins_at rho c p k + (process_at rho p).release)

-- a process starts so long after the begin of its period, in some job of some cycle
pub record HasStart (rho : Rates) (plan : Plan) (p start : ℕ) : Type 0 where
  pub cycle : ℕ
  pub job : ℕ
  pub there : IsRun rho (Job p job)
  pub is : start ≡ start_in_period rho plan cycle p job

-- and one ends so long after its release
pub record HasResponse (rho : Rates) (plan : Plan) (p response : ℕ) : Type 0 where
  pub cycle : ℕ
  pub job : ℕ
  pub there : IsRun rho (Job p job)
  pub is : response ≡ response_at rho plan cycle p job

-- the jitter of a process: its greatest start in a period less its least
pub record IsJitter (rho : Rates) (plan : Plan) (p jitter : ℕ) : Type 0 where
  pub earliest : ℕ
  pub latest : ℕ
  pub least : IsLeast (HasStart rho plan p) earliest
  pub greatest : IsGreatest (HasStart rho plan p) latest
  pub is : earliest + jitter ≡ latest

-- its response: the greatest
abbrev pub IsResponse : Rates → Plan → ℕ → ℕ → Type 0
IsResponse rho plan p = IsGreatest (HasResponse rho plan p)

-- both are those of the process
pub record IsSpread (rho : Rates) (plan : Plan) (p : ℕ) (spread : Spread) : Type 0 where
  pub jitter : IsJitter rho plan p spread.jitter
  pub response : IsResponse rho plan p spread.response
