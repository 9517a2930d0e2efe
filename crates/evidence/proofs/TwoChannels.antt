-- Two messages on two channels: which plans of the worked example are valid, and what is wrong with others.
use Rattle.std.proofs.Common.{◌≡◌, ◌≢◌, ℕ, zero, suc, ◌<◌, ◌≤◌, [], ◌∷◌, slice_index, true, false, lit<, lit≤, refl, arith, inl}
use Rattle.std.proofs.lemmas.Bool.{false≢true}
use Rattle.std.proofs.lemmas.List.Elements.{Contains-get_or}
use Rattle.ttp_model.specs.declared.plan.Plan.{Plan}
use Rattle.ttp_model.specs.declared.fault.PlanFault.TheVariants.{OverfullOn, WrongChannel}
use Rattle.ttp_model.specs.Instance.{Instance}
use Rattle.ttp_model.specs.Plans.{Clause, Lengths, Order, Capacities, Releases, Ends, Overlaps, Links, Readiness, Arrivals, Frames, Channels, Keeps, IsValid, IsNewNode, HasOwnCapacity, IsReleased, EndsInTime, IsApartFromLater, IsReady, HasArrivedAt, HasArrivedEverywhere, FitsFrame, FitsOn, HasOwnChannel}
use Rattle.ttp_model.specs.Faults.{clause_number, KeepsBefore, IsFirstFault}
use Rattle.ttp_model.specs.Worked.{two_messages, two_messages_plan}

other_node : (j : ℕ) → j < 1 → slice_index (1 ∷ 0 ∷ []) j ≢ 0
other_node zero below = λ e. absurd (omega arith)
other_node (suc j) below = absurd (omega arith)

new_node : (k : ℕ) → k < 2 → IsNewNode 2 (1 ∷ 0 ∷ []) k
new_node zero lt = record { node = lit< tt; first = λ j below. absurd (omega arith) }
new_node (suc zero) lt = record { node = lit< tt; first = other_node }
new_node (suc (suc k)) lt = absurd (omega arith)

-- no rule on times reads a channel
module _ (a b : ℕ) where
  abbrev problem : Instance
  problem = two_messages false

  abbrev plan : Plan
  plan = two_messages_plan (a ∷ b ∷ [])

  own : (n : ℕ) → n < 2 → HasOwnCapacity problem (2 ∷ 0 ∷ []) n
  own zero lt = record { own = Contains-get_or (2 ∷ []) 0 0 (lit< tt) }
  own (suc zero) lt = record { own = Contains-get_or (0 ∷ []) 0 0 (lit< tt) }
  own (suc (suc n)) lt = absurd (omega arith)

  released : (p : ℕ) → p < 3 → IsReleased problem plan p
  released zero lt = lit≤ tt
  released (suc zero) lt = lit≤ tt
  released (suc (suc zero)) lt = lit≤ tt
  released (suc (suc (suc p))) lt = absurd (omega arith)

  in_time : (p : ℕ) → p < 3 → EndsInTime problem plan p
  in_time zero lt = (lit≤ tt, lit≤ tt)
  in_time (suc zero) lt = (lit≤ tt, lit≤ tt)
  in_time (suc (suc zero)) lt = (lit≤ tt, lit≤ tt)
  in_time (suc (suc (suc p))) lt = absurd (omega arith)

  apart : (p : ℕ) → p < 3 → IsApartFromLater problem plan p
  apart zero lt (suc zero) later inside = λ same. absurd (omega (arith, same))
  apart zero lt (suc (suc zero)) later inside = λ same. absurd (omega (arith, same))
  apart (suc zero) lt (suc (suc zero)) later inside = λ same. inl (lit≤ tt)
  apart zero lt zero later inside = absurd (omega arith)
  apart (suc zero) lt zero later inside = absurd (omega arith)
  apart (suc zero) lt (suc zero) later inside = absurd (omega arith)
  apart (suc (suc p)) lt q later inside = absurd (omega arith)
  apart p lt (suc (suc (suc q))) later inside = absurd (omega arith)

  ready : (m : ℕ) → m < 2 → IsReady problem plan m
  ready zero lt = lit≤ tt
  ready (suc zero) lt = lit≤ tt
  ready (suc (suc m)) lt = absurd (omega arith)

  m_arrived : (k : ℕ) → k < 1 → HasArrivedAt problem plan 0 k
  m_arrived zero lt = lit≤ tt
  m_arrived (suc k) lt = absurd (omega arith)

  l_arrived : (k : ℕ) → k < 1 → HasArrivedAt problem plan 1 k
  l_arrived zero lt = lit≤ tt
  l_arrived (suc k) lt = absurd (omega arith)

  arrived : (m : ℕ) → m < 2 → HasArrivedEverywhere problem plan m
  arrived zero lt = m_arrived
  arrived (suc zero) lt = l_arrived
  arrived (suc (suc m)) lt = absurd (omega arith)

  keeps_others : (clause : Clause) → clause_number clause < 10 → Keeps problem plan clause
  keeps_others Lengths lt = record { order = refl; capacities = refl; starts = refl; rounds = refl; channels = refl }
  keeps_others Order lt = record { all = refl; each = new_node }
  keeps_others Capacities lt = own
  keeps_others Releases lt = released
  keeps_others Ends lt = in_time
  keeps_others Overlaps lt = apart
  keeps_others Links lt = λ l inside. absurd (omega arith)
  keeps_others Readiness lt = ready
  keeps_others Arrivals lt = arrived
  keeps_others Frames lt = absurd (omega (arith, lt))
  keeps_others Channels lt = absurd (omega (arith, lt))

  before_frames : KeepsBefore problem plan Frames
  before_frames = record { each = keeps_others }

fits_each : (m : ℕ) → m < 2 → FitsFrame (two_messages false) (two_messages_plan (0 ∷ 1 ∷ [])) m
fits_each zero lt zero within = λ on. lit≤ tt
fits_each zero lt (suc zero) within = λ on. absurd (false≢true on)
fits_each zero lt (suc (suc c)) within = absurd (omega (arith, within))
fits_each (suc zero) lt zero within = λ on. absurd (false≢true on)
fits_each (suc zero) lt (suc zero) within = λ on. lit≤ tt
fits_each (suc zero) lt (suc (suc c)) within = absurd (omega (arith, within))
fits_each (suc (suc m)) lt c within = absurd (omega arith)

own_each : (m : ℕ) → m < 2 → HasOwnChannel (two_messages false) (two_messages_plan (0 ∷ 1 ∷ [])) m
own_each zero lt = record { known = lit≤ tt; alone = λ two. absurd (omega (arith, two)); both = λ is. absurd (false≢true is) }
own_each (suc zero) lt = record { known = lit≤ tt; alone = λ two. absurd (omega (arith, two)); both = λ is. absurd (false≢true is) }
own_each (suc (suc m)) lt = absurd (omega arith)

-- one on each channel
pub one_on_each : IsValid (two_messages false) (two_messages_plan (0 ∷ 1 ∷ []))
one_on_each = record {
  lengths = record { order = refl; capacities = refl; starts = refl; rounds = refl; channels = refl };
  order = record { all = refl; each = new_node };
  capacities = own 0 1;
  released = released 0 1;
  in_time = in_time 0 1;
  apart = apart 0 1;
  links = λ l lt. absurd (omega arith);
  ready = ready 0 1;
  arrived = arrived 0 1;
  frames = fits_each;
  on_own = own_each;
}

too_much : 4 ≤ 2 → ⊥
too_much le = omega (arith, le)

-- both on the first channel
pub together : IsFirstFault (two_messages false) (two_messages_plan (0 ∷ 0 ∷ [])) (OverfullOn 0 0 0)
together = (
  before_frames 0 0,
  record {
    cluster = refl;
    message = 0;
    first = record { within = lit< tt; fails = λ fits. too_much (fits 0 (lit< tt) refl); holds_before = λ k lt. absurd (omega (arith, lt)) };
    channel = record { within = lit< tt; fails = λ fits. too_much (fits refl); holds_before = λ k lt. absurd (omega (arith, lt)) };
    node = refl;
    round = refl;
  },
)

-- the first on both, the second beside it
pub doubled : IsFirstFault (two_messages false) (two_messages_plan (2 ∷ 1 ∷ [])) (OverfullOn 0 0 1)
doubled = (
  before_frames 2 1,
  record {
    cluster = refl;
    message = 0;
    first = record { within = lit< tt; fails = λ fits. too_much (fits 1 (lit< tt) refl); holds_before = λ k lt. absurd (omega (arith, lt)) };
    channel = record { within = lit< tt; fails = λ fits. too_much (fits refl); holds_before = fits_there };
    node = refl;
    round = refl;
  },
)
  where
    fits_there : (c : ℕ) → c < 1 → FitsOn (two_messages false) (two_messages_plan (2 ∷ 1 ∷ [])) 0 c
    fits_there zero lt = λ on. lit≤ tt
    fits_there (suc c) lt = absurd (omega (arith, lt))

-- a channel that isn't there
pub unknown : IsFirstFault (two_messages false) (two_messages_plan (0 ∷ 3 ∷ [])) (WrongChannel 1)
unknown = (
  record { each = keeps },
  record {
    within = lit< tt;
    fails = λ own. (let small : 3 ≤ 2 = own.known in omega (arith, small));
    holds_before = own_before;
  },
)
  where
    fits : (m : ℕ) → m < 2 → FitsFrame (two_messages false) (two_messages_plan (0 ∷ 3 ∷ [])) m
    fits zero lt zero within = λ on. lit≤ tt
    fits zero lt (suc zero) within = λ on. absurd (false≢true on)
    fits zero lt (suc (suc c)) within = absurd (omega (arith, within))
    fits (suc zero) lt zero within = λ on. absurd (false≢true on)
    fits (suc zero) lt (suc zero) within = λ on. absurd (false≢true on)
    fits (suc zero) lt (suc (suc c)) within = absurd (omega (arith, within))
    fits (suc (suc m)) lt c within = absurd (omega (arith, lt))

    keeps : (clause : Clause) → clause_number clause < 11 → Keeps (two_messages false) (two_messages_plan (0 ∷ 3 ∷ [])) clause
    keeps Lengths lt = keeps_others 0 3 Lengths (omega arith)
    keeps Order lt = keeps_others 0 3 Order (omega arith)
    keeps Capacities lt = keeps_others 0 3 Capacities (omega arith)
    keeps Releases lt = keeps_others 0 3 Releases (omega arith)
    keeps Ends lt = keeps_others 0 3 Ends (omega arith)
    keeps Overlaps lt = keeps_others 0 3 Overlaps (omega arith)
    keeps Links lt = keeps_others 0 3 Links (omega arith)
    keeps Readiness lt = keeps_others 0 3 Readiness (omega arith)
    keeps Arrivals lt = keeps_others 0 3 Arrivals (omega arith)
    keeps Frames lt = fits
    keeps Channels lt = absurd (omega (arith, lt))

    own_before : (m : ℕ) → m < 1 → HasOwnChannel (two_messages false) (two_messages_plan (0 ∷ 3 ∷ [])) m
    own_before zero lt = record { known = lit≤ tt; alone = λ two. absurd (omega (arith, two)); both = λ is. absurd (false≢true is) }
    own_before (suc m) lt = absurd (omega (arith, lt))

pub not_alone : ¬ HasOwnChannel (two_messages true) (two_messages_plan (0 ∷ 1 ∷ [])) 1
not_alone own = let is : 1 ≡ 2 = own.both refl in omega (arith, is)

pub on_both : HasOwnChannel (two_messages true) (two_messages_plan (0 ∷ 2 ∷ [])) 1
on_both = record { known = lit≤ tt; alone = λ two. absurd (omega (arith, two)); both = λ is. refl }
