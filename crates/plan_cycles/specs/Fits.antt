-- Which trails and rounds fit a period.
use Rattle.std.specs.Prelude.{◌≡◌, ◌⊎◌, ℕ, ◌+◌, ◌*◌, ◌<◌, ◌≤◌, List, All, AllPairs, Contains, length}
use Rattle.ttp_model.specs.declared.parts.Cluster.{Cluster}
use Rattle.ttp_model.specs.Limits.{most_bus_ticks}
use Rattle.ttp_model.specs.Instance.{Instance}
use Rattle.ttp_model.specs.Slots.{round_length}
use Rattle.plan_cycles.specs.declared.fits.Fit.{Fit}
use Rattle.plan_cycles.specs.Divisors.{Divides}
use Rattle.plan_cycles.specs.Offered.{AreOffered}

-- how many fits are told, at most
abbrev pub most_fits : ℕ
most_fits = 5

-- with this trail, some capacities that the nodes offer make a round of these ticks
pub record CanTake (i : Instance) (trail round : ℕ) : Type 0 where
  pub caps : List ℕ
  pub offered : AreOffered i (length i.nodes) caps
  pub takes : round_length (record i.cluster { trail = trail }) caps ≡ round

-- a trail no shorter than the instance's own, and no longer than any, can make a round that divides the period
pub record IsFit (i : Instance) (period : ℕ) (fit : Fit) : Type 0 where
  pub least : i.cluster.trail ≤ fit.trail
  pub most : fit.trail ≤ most_bus_ticks
  pub can_take : CanTake i fit.trail fit.round
  pub divides : Divides fit.round period

-- by rising trail, and then by rising round
abbrev pub GoesBefore : Fit → Fit → Type 0
GoesBefore one other = (one.trail < other.trail) ⊎ ((one.trail ≡ other.trail) × (one.round < other.round))

-- The first of those of which this holds: it holds of each, they rise, they are few, and of all others each stands among them, or
-- they are as many as may be and it goes behind all of them.
pub record AreFirst (Holds : Fit → Type 0) (fits : List Fit) : Type 0 where
  pub each : All Holds fits
  pub rising : AllPairs GoesBefore fits
  pub few : length fits ≤ most_fits
  pub others : (fit : Fit) → Holds fit → Contains fits fit ⊎ ((length fits ≡ most_fits) × All (λ told. GoesBefore told fit) fits)

-- the first fits
abbrev pub AreFirstFits : Instance → ℕ → List Fit → Type 0
AreFirstFits i period = AreFirst (IsFit i period)

-- the first of those with lesser trails; and with some of the rounds with this one. Only private contracts ask for these
abbrev pub IsFitBefore : Instance → ℕ → ℕ → Fit → Type 0
IsFitBefore i period trail fit = IsFit i period fit × (fit.trail < trail)

abbrev pub IsFitWith : Instance → ℕ → ℕ → List ℕ → Fit → Type 0
IsFitWith i period trail rounds fit = IsFit i period fit × ((fit.trail < trail) ⊎ ((fit.trail ≡ trail) × Contains rounds fit.round))

-- how long a round is by the bytes of all its capacities together
abbrev pub round_of_bytes : Cluster → ℕ → ℕ → ℕ → ℕ
round_of_bytes c count trail bytes = count * (c.lead + c.head + trail) + c.per_byte * bytes
