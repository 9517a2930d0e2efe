-- What steps ask for: sums over what is known, and where times and rounds lead.
use Rattle.std.specs.Prelude.{ℕ, ◌+◌, ◌-◌, ◌*◌, ◌<◌, ◌≤◌, ◌==◌, ◌&&◌, nat_le, if◌then◌else◌, Bool, false, IsTrue, List, length, slice_index, Option, None, Some, ◌⊎◌, ◌↔◌}
use Rattle.ttp_model.specs.Limits.{both_channels}
use Rattle.ttp_model.specs.Instance.{Instance, process_at, message_at, node_of, source_of}
use Rattle.ttp_model.specs.Graph.{Leads, Receives}
use Rattle.ttp_model.specs.Plans.{is_on}
use Rattle.ttp_model.specs.Totals.{total}
use Rattle.tt_choice.specs.Choice.{Choice, fixed_channel}
use Rattle.tt_choice.specs.Extremes.{start_most, end_least, cap_most}
use Rattle.sought_plans.specs.Known.{Known, es_of, le_of, lo_of, top_of, bef_of}

-- how long a process runs
abbrev pub wcet_of : Instance → ℕ → ℕ
wcet_of i p = (process_at i p).wcet

-- the process that sends a message
abbrev pub sender_of : Instance → ℕ → ℕ
sender_of i m = (message_at i m).sender

-- when a process ends at least
abbrev pub least_end : Instance → Known → ℕ → ℕ
least_end i f p = es_of f p + wcet_of i p

-- when a process starts at most
abbrev pub most_start : Instance → Known → ℕ → ℕ
most_start i f p = le_of f p - wcet_of i p

-- when a message is copied out at least
abbrev pub least_ready : Instance → Known → ℕ → ℕ
least_ready i f m = least_end i f (sender_of i m) + i.cluster.copy_out

-- a message goes to a process: it is there, and the process receives it
abbrev pub GoesTo : Instance → ℕ → ℕ → Type 0
GoesTo i m q = (m < length i.messages) × Receives i q m

-- the first round whose slot of the sender's node may begin once the message is copied out
pub record IsFirstChance (i : Instance) (c : Choice) (f : Known) (m r : ℕ) : Type 0 where
  pub late_enough : least_ready i f m ≤ start_most i c (source_of i m) r
  pub least : (s : ℕ) → least_ready i f m ≤ start_most i c (source_of i m) s → r ≤ s

-- the rounds in which the message can still reach its receiver in time are those below r
abbrev pub AreChances : Instance → Choice → Known → ℕ → ℕ → ℕ → Type 0
AreChances i c f m q r =
    (s : ℕ) → (s < r) ↔ (end_least i c (source_of i m) s + i.cluster.copy_in + wcet_of i q ≤ le_of f q)

-- p goes before q: it is known, or a link or a message leads from p to q
abbrev pub IsAhead : Instance → Known → ℕ → ℕ → Type 0
IsAhead i f p q = IsTrue (bef_of f p q) ⊎ Leads i p q

-- each process goes before the next, and the last before the first
pub record IsRing (i : Instance) (f : Known) (ps : List ℕ) : Type 0 where
  pub each : (k : ℕ) → k + 1 < length ps → IsAhead i f (slice_index ps k) (slice_index ps (k + 1))
  pub closes : IsAhead i f (slice_index ps (length ps - 1)) (slice_index ps 0)

-- a process of node n runs from a to b: it can't start earlier nor end later
abbrev pub runs_within : Instance → Known → ℕ → ℕ → ℕ → ℕ → Bool
runs_within i f n a b p = (node_of i p == n) && (nat_le a (es_of f p) && nat_le (le_of f p) b)

-- how long a process runs on node n from a to b
abbrev pub load_within : Instance → Known → ℕ → ℕ → ℕ → ℕ → ℕ
load_within i f n a b p = if runs_within i f n a b p then wcet_of i p else 0

-- the processes of node n that run from a to b run longer than that
pub record IsOverloaded (i : Instance) (f : Known) (n a b : ℕ) : Type 0 where
  pub span : a ≤ b
  pub load : b - a < total (load_within i f n a b) (length i.processes)

-- a message of node n is sent in a round from a on and before b
abbrev pub sent_within : Instance → Known → ℕ → ℕ → ℕ → ℕ → Bool
sent_within i f n a b m = (source_of i m == n) && (nat_le a (lo_of f m) && nat_le (top_of f m) b)

-- how many bytes a message puts into the frames of node n from round a on and before b
abbrev pub bytes_within : Instance → Known → ℕ → ℕ → ℕ → ℕ → ℕ
bytes_within i f n a b m = if sent_within i f n a b m then (message_at i m).bytes else 0

-- in how many halves of a frame a message is at least, by what is fixed of its channel: in two where that is both
abbrev pub copies_of : Option ℕ → ℕ
copies_of None = 1
copies_of (Some fixed) = if fixed == both_channels then 2 else 1

abbrev pub copies : Choice → ℕ → ℕ
copies c m = copies_of (fixed_channel c m)

-- the bytes that it puts there, as often
abbrev pub bytes_copied : Instance → Choice → Known → ℕ → ℕ → ℕ → ℕ → ℕ
bytes_copied i c f n a b m = copies c m * bytes_within i f n a b m

-- what is fixed is channel k, or both
abbrev pub is_fixed_on : ℕ → Option ℕ → Bool
is_fixed_on k None = false
is_fixed_on k (Some fixed) = is_on k fixed

-- a message is fixed to channel k, or to both
abbrev pub counts_on : Choice → ℕ → ℕ → Bool
counts_on c k m = is_fixed_on k (fixed_channel c m)

-- how many bytes a message puts into these frames on channel k, where it is fixed to it
abbrev pub bytes_counted : Instance → Choice → Known → ℕ → ℕ → ℕ → ℕ → ℕ → ℕ
bytes_counted i c f k n a b m = if counts_on c k m then bytes_within i f n a b m else 0

-- the messages of node n that are sent in these rounds are more than all its frames can carry, on all channels
pub record AreOverfull (i : Instance) (c : Choice) (f : Known) (n a b : ℕ) : Type 0 where
  pub span : a ≤ b
  pub bytes : i.cluster.channels * ((b - a) * cap_most i c n) < total (bytes_copied i c f n a b) (length i.messages)

-- those that are fixed to channel k are more than they can carry there
pub record AreOverfullOn (i : Instance) (c : Choice) (f : Known) (k n a b : ℕ) : Type 0 where
  pub span : a ≤ b
  pub bytes : (b - a) * cap_most i c n < total (bytes_counted i c f k n a b) (length i.messages)
