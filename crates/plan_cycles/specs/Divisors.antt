-- Which rounds divide a period.
use Rattle.std.specs.Prelude.{◌≡◌, ℕ, ◌<◌, ◌≤◌, ◌%◌, List, All, AllPairs, Contains}

-- so many whole rounds of these ticks make the period that none are left
abbrev pub Divides : ℕ → ℕ → Type 0
Divides round period = period % round ≡ 0

-- the longest that divides the period and takes at most these ticks
pub record IsGreatestUpTo (period most round : ℕ) : Type 0 where
  pub divides : Divides round period
  pub within : round ≤ most
  pub greatest : (other : ℕ) → Divides other period → other ≤ most → other ≤ round

-- the shortest that divides the period and takes at least these ticks
pub record IsLeastFrom (period least round : ℕ) : Type 0 where
  pub divides : Divides round period
  pub within : least ≤ round
  pub shortest : (other : ℕ) → Divides other period → least ≤ other → round ≤ other

-- all that divide the period and take fewer ticks than the limit, rising
pub record AreDivisors (period limit : ℕ) (rounds : List ℕ) : Type 0 where
  pub each : All (λ round. Divides round period) rounds
  pub below : All (λ round. round < limit) rounds
  pub rising : AllPairs (λ one other. one < other) rounds
  pub all : (round : ℕ) → 0 < round → round < limit → Divides round period → Contains rounds round
