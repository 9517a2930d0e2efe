-- Which order isn't known that a step asks for. Own profile.
use Rattle.std.specs.Prelude.{◌≡◌, ◌⊎◌, ℕ, ◌+◌, ◌-◌, ◌<◌, ◌≤◌, IsTrue, List, length, slice_index}
use Rattle.ttp_model.specs.Instance.{Instance}
use Rattle.ttp_model.specs.Lists.{EachBelow}
use Rattle.ttp_model.specs.Names.{process_name}
use Rattle.sought_plans.specs.Dominance.{AreTwinsInOrder}
use Rattle.sought_plans.specs.Known.{Known, bef_of, le_of}
use Rattle.sought_plans.specs.Premises.{IsAhead, least_end, wcet_of}
use Rattle.certificate_reasons.specs.declared.order_lacks.OrderLack.{OrderLack}
use Rattle.certificate_reasons.specs.declared.order_lacks.OrderLack.TheVariants.{InTime, NotFirst, NotTwins}

-- process p isn't known to go before q
abbrev pub IsNotFirst : Instance → Known → ℕ → ℕ → OrderLack → Type 0
IsNotFirst i f p q (NotFirst process other) =
    (process.now ≡ process_name i p) × (other.now ≡ process_name i q) × ¬ IsTrue (bef_of f p q)
IsNotFirst i f p q _ = ⊥

-- p ends in time behind q
abbrev pub IsInTime : Instance → Known → ℕ → ℕ → OrderLack → Type 0
IsInTime i f p q (InTime process other end most) =
    (process.now ≡ process_name i p) × (other.now ≡ process_name i q) × (end ≡ least_end i f q + wcet_of i p) × (most ≡ le_of f p) × (end ≤ most)
IsInTime i f p q _ = ⊥

-- they aren't twins of which p is the first
abbrev pub IsNotTwins : Instance → ℕ → ℕ → OrderLack → Type 0
IsNotTwins i p q (NotTwins process other) =
    (process.now ≡ process_name i p) × (other.now ≡ process_name i q) × ¬ AreTwinsInOrder i p q
IsNotTwins i p q _ = ⊥

-- the names of two processes of which the first doesn't go before the second
abbrev pub IsNotAhead : Instance → ℕ → ℕ → OrderLack → Type 0
IsNotAhead i p q (NotFirst process other) = (process.now ≡ process_name i p) × (other.now ≡ process_name i q)
IsNotAhead i p q _ = ⊥

-- the process at this place of a circle, and the next one
pub record IsRingLackAt (i : Instance) (f : Known) (ps : List ℕ) (k : ℕ) (x : OrderLack) : Type 0 where
  pub within : k + 1 < length ps
  pub names : IsNotAhead i (slice_index ps k) (slice_index ps (k + 1)) x
  pub lacks : ¬ IsAhead i f (slice_index ps k) (slice_index ps (k + 1))
  pub before : EachBelow k (λ j. IsAhead i f (slice_index ps j) (slice_index ps (j + 1)))

-- its last process, and the first one
pub record IsLastRingLack (i : Instance) (f : Known) (ps : List ℕ) (x : OrderLack) : Type 0 where
  pub names : IsNotAhead i (slice_index ps (length ps - 1)) (slice_index ps 0) x
  pub lacks : ¬ IsAhead i f (slice_index ps (length ps - 1)) (slice_index ps 0)

-- the first of a circle that doesn't go before the next one
abbrev pub IsRingLack : Instance → Known → List ℕ → OrderLack → Type 0
IsRingLack i f ps x = ((k : ℕ) × IsRingLackAt i f ps k x) ⊎ IsLastRingLack i f ps x
