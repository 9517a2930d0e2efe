-- By when jobs have to end.
use Rattle.std.specs.Prelude.{ℕ, ◌+◌, ◌-◌, ◌*◌, ◌==◌, List, ◌∷◌, length, slice_index, map, filter, fold, min}
use Rattle.std.specs.List.{range_with_len}
use Rattle.rates_model.specs.declared.parts.Chain.{Chain}
use Rattle.rates_model.specs.Rates.{Rates, process_at, period_of}
use Rattle.rates_model.specs.Cycles.{horizon_of}
use Rattle.rates_model.specs.Reads.{job_from_all}
use Rattle.rates_model.specs.Ages.{age_deadline, carried, cycles_back, first_of, last_of, release_from_all, wait_of}

-- When the job of a chain's first process may begin whose value job k of the last one carries, so many cycles on that none on the
-- way is before all.
abbrev pub carried_release : Rates → Chain → ℕ → ℕ
carried_release rho chain k = release_from_all rho (first_of chain) (carried rho chain.through (job_from_all rho (last_of chain) (cycles_back chain) k))

-- by when the chains that end with a process want its job k to end
abbrev pub age_deadlines : Rates → ℕ → ℕ → List ℕ
age_deadlines rho p k = map (λ chain. age_deadline rho chain k) (filter (λ chain. last_of chain == p) rho.chains)

-- The latest end of job k of a process: of its deadline from the begin of its period, what chains want, and the end of the
-- last whole round, the least.
unfoldable pub job_deadline : Rates → ℕ → ℕ → ℕ
job_deadline rho p k = fold min (horizon_of rho) ((k * period_of rho p + (process_at rho p).deadline) ∷ age_deadlines rho p k)

-- by how many periods what each of these but the first reads of the one before it may be old
abbrev pub waits_along : Rates → List ℕ → List ℕ
waits_along rho through = map (λ k. wait_of rho (slice_index through k) (slice_index through (k + 1))) (range_with_len 0 (length through - 1))

-- those along each chain
abbrev pub waits_of : Rates → List (List ℕ)
waits_of rho = map (λ chain. waits_along rho chain.through) rho.chains
