-- The plan of the worked example is valid, whatever the trail; without one, q starts while its message is on the bus.
use Rattle.std.proofs.Common.{◌≢◌, ℕ, zero, suc, ◌+◌, ◌*◌, ◌<◌, ◌≤◌, [], ◌∷◌, Contains, slice_index, lit<, lit≤, refl, arith, inl, inr}
use Rattle.std.proofs.lemmas.Bool.{false≢true}
use Rattle.std.proofs.lemmas.Bool.Decides.{eqb_tells}
use Rattle.std.proofs.lemmas.List.Elements.{Contains-get_or}
use Rattle.ttp_model.specs.Instance.{Instance}
use Rattle.ttp_model.specs.declared.plan.Plan.{Plan}
use Rattle.ttp_model.specs.Plans.{EndsInTime, FitsFrame, HasArrivedAt, HasArrivedEverywhere, HasOwnCapacity, HasOwnChannel, IsApartFromLater, IsNewNode, IsReady, IsReleased, IsValid}
use Rattle.guardian_windows.specs.Clocks.{AreSynchronized, Clock, GuardianClock, NodeClock}
use Rattle.plan_cycles.specs.Repeating.{StartBehindFrames}
use Rattle.plan_cycles.specs.Worked.{fast_receiver, pair_plan, pair_with}

other_node : (j : ℕ) → j < 1 → slice_index (1 ∷ 0 ∷ []) j ≢ 0
other_node zero below = λ e. absurd (omega (arith, e))
other_node (suc j) below = absurd (omega (arith, below))

new_node : (k : ℕ) → k < 2 → IsNewNode 2 (1 ∷ 0 ∷ []) k
new_node zero inside = record { node = lit< tt; first = λ j below. absurd (omega (arith, below)) }
new_node (suc zero) inside = record { node = lit< tt; first = other_node }
new_node (suc (suc k)) inside = absurd (omega (arith, inside))

module _ (trail start : ℕ) (behind : 8 + 2 * trail ≤ start) (early : start ≤ 99) where
  abbrev i : Instance
  i = pair_with trail

  abbrev plan : Plan
  plan = pair_plan start

  own : (n : ℕ) → n < 2 → HasOwnCapacity i plan.caps n
  own zero inside = record { own = Contains-get_or (2 ∷ []) 0 0 (lit< tt) }
  own (suc zero) inside = record { own = Contains-get_or (0 ∷ []) 0 0 (lit< tt) }
  own (suc (suc n)) inside = absurd (omega (arith, inside))

  released : (p : ℕ) → p < 2 → IsReleased i plan p
  released zero inside = omega arith
  released (suc zero) inside = omega arith
  released (suc (suc p)) inside = absurd (omega (arith, inside))

  in_time : (p : ℕ) → p < 2 → EndsInTime i plan p
  in_time zero inside = (lit≤ tt, lit≤ tt)
  in_time (suc zero) inside = (omega (arith, early), omega (arith, early))
  in_time (suc (suc p)) inside = absurd (omega (arith, inside))

  apart : (p : ℕ) → p < 2 → IsApartFromLater i plan p
  apart zero inside zero later there = absurd (omega (arith, later))
  apart zero inside (suc zero) later there = λ same. absurd (omega (arith, same))
  apart zero inside (suc (suc q)) later there = absurd (omega (arith, there))
  apart (suc p) inside q later there = absurd (omega (arith, inside, later, there))

  ready : (m : ℕ) → m < 1 → IsReady i plan m
  ready zero inside = omega arith
  ready (suc m) inside = absurd (omega (arith, inside))

  arrived_at : (k : ℕ) → k < 1 → HasArrivedAt i plan 0 k
  arrived_at zero inside = omega (arith, behind)
  arrived_at (suc k) inside = absurd (omega (arith, inside))

  arrived : (m : ℕ) → m < 1 → HasArrivedEverywhere i plan m
  arrived zero inside = arrived_at
  arrived (suc m) inside = absurd (omega (arith, inside))

  fits : (m : ℕ) → m < 1 → FitsFrame i plan m
  fits zero inside zero within = λ on. lit≤ tt
  fits zero inside (suc c) within = absurd (omega (arith, within))
  fits (suc m) inside c within = absurd (omega (arith, inside))

  on_own : (m : ℕ) → m < 1 → HasOwnChannel i plan m
  on_own zero inside = record { known = lit≤ tt; alone = λ _. refl; both = λ is. absurd (false≢true is) }
  on_own (suc m) inside = absurd (omega (arith, inside))

  pub pair_plan_is_valid : IsValid i plan
  pair_plan_is_valid = record {
    lengths = record { order = refl; capacities = refl; starts = refl; rounds = refl; channels = refl };
    order = record { all = refl; each = new_node };
    capacities = own;
    released = released;
    in_time = in_time;
    apart = apart;
    links = λ l inside. absurd (omega (arith, inside));
    ready = ready;
    arrived = arrived;
    frames = fits;
    on_own = on_own;
  }

-- one clock is a tick ahead of all others
between : (tick : ℕ) (clock : Clock) → (tick ≤ fast_receiver tick clock) × (fast_receiver tick clock ≤ tick + 1)
between tick (NodeClock n) = elim (eqb_tells n 1) [
  | inl is ↦ rw is.0 (omega arith, omega arith)
  | inr other ↦ rw other.0 (omega arith, omega arith)
]
between tick (GuardianClock n) = (omega arith, omega arith)

synchronized : (tick : ℕ) → AreSynchronized 1 (fast_receiver tick)
synchronized tick a b = omega (arith, (between tick a).1, (between tick b).0)

q_receives : Contains {X = ℕ} (1 ∷ []) 1
q_receives = (0, lit< tt, refl)

-- B's clock reads 8, when q starts, and A's reads 7, when the last tick of the frame begins
pub starts_too_early : (period : ℕ) → ¬ StartBehindFrames period (pair_with 0) (pair_plan 8)
starts_too_early period law =
    let over : 0 * period + 8 ≤ 7 = law (fast_receiver 7) 0 0 1 (synchronized 7) (lit< tt) q_receives (omega arith) in
    omega (arith, over)
