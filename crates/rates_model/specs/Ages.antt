-- How old a value may be at the end of a chain: which job of the first process the last one carries a value of.
use Rattle.std.specs.Prelude.{ℕ, ◌+◌, ◌-◌, ◌*◌, List, [], ◌∷◌, length, slice_index, if◌then◌else◌}
use Rattle.rates_model.specs.declared.parts.Chain.{Chain}
use Rattle.rates_model.specs.Rates.{Rates, process_at, period_of}
use Rattle.rates_model.specs.Cycles.{cycle}
use Rattle.rates_model.specs.Reads.{job_from_all, last_begun, leads}

-- by how many periods what a process reads of the one before it may be old: of several ways the oldest
abbrev pub wait_of : Rates → ℕ → ℕ → ℕ
wait_of rho p q = if leads rho p q 1 then 1 else 0

-- The job of the first process, from all, whose value job j of the last one carries, from all. It is told only where no
-- process on the way would read a job before all.
abbrev pub carried : Rates → List ℕ → ℕ → ℕ
carried rho [] j = j
carried rho (p ∷ []) j = j
carried rho (p ∷ q ∷ ps) j = last_begun rho p q (carried rho (q ∷ ps) j) - wait_of rho p q

-- so many cycles before a cycle that no process on the way to one of its jobs reads a job before all: one to two for each
abbrev pub cycles_back : Chain → ℕ
cycles_back chain = 2 * length chain.through

-- the first process of a chain
abbrev pub first_of : Chain → ℕ
first_of chain = slice_index chain.through 0

-- and its last
abbrev pub last_of : Chain → ℕ
last_of chain = slice_index chain.through (length chain.through - 1)

-- when job k of a process from all may begin
abbrev pub release_from_all : Rates → ℕ → ℕ → ℕ
release_from_all rho p k = k * period_of rho p + (process_at rho p).release

-- By when, in its cycle, job k of the last process of a chain has to end, so that what it carries is no older than the chain
-- allows: 0 where that would be before its cycle begins.
abbrev pub age_deadline : Rates → Chain → ℕ → ℕ
age_deadline rho chain k =
    chain.age
    + release_from_all rho (first_of chain) (carried rho chain.through (job_from_all rho (last_of chain) (cycles_back chain) k))
    - cycles_back chain * cycle rho
