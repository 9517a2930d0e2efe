-- What the five steps ask for that are true of settled plans alone. Own profile.
use Rattle.std.specs.Prelude.{◌≡◌, ◌≢◌, ℕ, ◌+◌, ◌-◌, ◌<◌, ◌≤◌, ◌==◌, ◌&&◌, ◌||◌, nat_le, nat_lt, if◌then◌else◌, ◌⊎◌, Bool, IsFalse, List, Some, length, slice_index}
use Rattle.ttp_model.specs.Limits.{both_channels}
use Rattle.ttp_model.specs.Instance.{Instance, process_at, message_at, node_of, source_of}
use Rattle.ttp_model.specs.Lists.{EachBelow}
use Rattle.ttp_model.specs.Graph.{HasLink}
use Rattle.ttp_model.specs.Twins.{AreTwins, AreSilentTwins}
use Rattle.ttp_model.specs.Totals.{total}
use Rattle.tt_choice.specs.Choice.{Choice, fixed_channel}
use Rattle.tt_choice.specs.Extremes.{start_least, end_most, cap_least}
use Rattle.sought_plans.specs.Known.{Known, le_of, lo_of, top_of, bef_of}
use Rattle.sought_plans.specs.Premises.{GoesTo, sender_of}

-- twins, told in order
pub record AreTwinsInOrder (i : Instance) (p q : ℕ) : Type 0 where
  pub in_order : p < q
  pub twins : AreTwins i p q

-- x may run before p: another process of its node, and p isn't known to go before it
pub record MayGoBefore (i : Instance) (f : Known) (p x : ℕ) : Type 0 where
  pub other : x ≢ p
  pub one_node : node_of i x ≡ node_of i p
  pub not_known : IsFalse (bef_of f p x)
  pub no_link : ¬ HasLink i p x

-- message m is sent to p
abbrev pub IsSentTo : Instance → ℕ → ℕ → Type 0
IsSentTo i p m = GoesTo i m p

-- a round is left for each message to p
abbrev pub HasRounds : Instance → Known → ℕ → Type 0
HasRounds i f p = (m : ℕ) → IsSentTo i p m → 1 ≤ top_of f m

-- when a message has arrived at most: its slot has ended in the last round, and it is copied in
abbrev pub last_arrival : Instance → Choice → Known → ℕ → ℕ
last_arrival i c f m = end_most i c (source_of i m) (top_of f m - 1) + i.cluster.copy_in

-- by this time all is over that p may have to wait for: its release, what may run before it, and
-- the last slots of its messages
pub record MayWaitUntil (i : Instance) (c : Choice) (f : Known) (p time : ℕ) : Type 0 where
  pub release : (process_at i p).release ≤ time
  pub others : (x : ℕ) → x < length i.processes → MayGoBefore i f p x → le_of f x ≤ time
  pub messages : (m : ℕ) → IsSentTo i p m → last_arrival i c f m ≤ time

-- the greatest of these times, and so the least by which all is over
pub record IsGreatestWait (i : Instance) (c : Choice) (f : Known) (p time : ℕ) : Type 0 where
  pub wait : MayWaitUntil i c f p time
  pub least : (other : ℕ) → MayWaitUntil i c f p other → time ≤ other

-- message k can be in the frame of round r in which m would be: it is m, or one of the same node
-- that can be sent in that round
abbrev pub may_be_beside : Instance → Known → ℕ → ℕ → ℕ → Bool
may_be_beside i f m r k = (k == m) || ((source_of i k == source_of i m) && (nat_le (lo_of f k) r && nat_lt r (top_of f k)))

-- how many bytes it can put into that frame
abbrev pub bytes_beside : Instance → Known → ℕ → ℕ → ℕ → ℕ
bytes_beside i f m r k = if may_be_beside i f m r k then (message_at i k).bytes else 0

-- message m could be sent in round r, which is earlier than any in which it is: it is ready then, and
-- its frame has room for it
pub record CouldBeEarlier (i : Instance) (c : Choice) (f : Known) (m r : ℕ) : Type 0 where
  pub earlier : r < lo_of f m
  pub ready : le_of f (sender_of i m) + i.cluster.copy_out ≤ start_least i c (source_of i m) r
  pub room : total (bytes_beside i f m r) (length i.messages) ≤ cap_least i c (source_of i m)

-- v stands in an order, and u doesn't stand before it
pub record StandsFirst (order : List ℕ) (v u : ℕ) : Type 0 where
  pub place : ℕ
  pub placed : place < length order
  pub v_is : slice_index order place ≡ v
  pub u_later : EachBelow place (λ k. slice_index order k ≢ u)

-- silent twins u and v of which v is placed, and u isn't, or later
pub record StandTurned (i : Instance) (c : Choice) (u v : ℕ) : Type 0 where
  pub in_order : u < v
  pub twins : AreSilentTwins i u v
  pub first : StandsFirst c.prefix v u

-- message k is fixed to both channels, or in none of the rounds in which m is
abbrev pub KeepsAside : Choice → Known → ℕ → ℕ → Type 0
KeepsAside c f m k = (fixed_channel c k ≡ Some both_channels) ⊎ ((top_of f k ≤ lo_of f m) ⊎ (top_of f m ≤ lo_of f k))

-- message m is fixed to channel 1, and each lower one of its node keeps aside: m leads a turned frame, wherever it is sent
pub record IsMirrored (i : Instance) (c : Choice) (f : Known) (m : ℕ) : Type 0 where
  pub second : fixed_channel c m ≡ Some 1
  pub lower : EachBelow m (λ k. source_of i k ≡ source_of i m → KeepsAside c f m k)
