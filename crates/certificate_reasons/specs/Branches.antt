-- What is wrong with a branch. Own profile.
use Rattle.std.specs.Prelude.{◌≡◌, ℕ, ◌<◌, length}
use Rattle.ttp_model.specs.declared.error.Part.TheVariants as part
use Rattle.ttp_model.specs.declared.step.Kind.{Kind}
use Rattle.ttp_model.specs.declared.step.Kind.TheVariants.{Place, Cap, Pair, Round, Chan}
use Rattle.ttp_model.specs.Instance.{Instance, node_at}
use Rattle.ttp_model.specs.Names.{message_name, node_name, process_name}
use Rattle.certificate_reasons.specs.declared.branches.ChildCount.{ChildCount}
use Rattle.certificate_reasons.specs.declared.branches.ChildCount.TheVariants as count
use Rattle.certificate_reasons.specs.declared.branches.NotOpen.{NotOpen}
use Rattle.certificate_reasons.specs.declared.branches.NotOpen.TheVariants as shut
use Rattle.certificate_reasons.specs.Absent.{IsPartLacking, first_absent}

-- ---- it isn't open

-- a node isn't there, or its capacity is decided above
abbrev pub IsClosedCap : Instance → ℕ → NotOpen → Type 0
IsClosedCap i n (shut.Absent x) = IsPartLacking i part.Nodes n x
IsClosedCap i n (shut.Capacity node) = (n < length i.nodes) × (node.now ≡ node_name i n)
IsClosedCap i n _ = ⊥

-- a process isn't there, or the order of both is decided above, or they aren't two of one node
abbrev pub IsClosedPair : Instance → ℕ → ℕ → NotOpen → Type 0
IsClosedPair i p q (shut.Absent x) = IsPartLacking i part.Processes (first_absent (length i.processes) p q) x
IsClosedPair i p q (shut.Order process other) =
    (p < length i.processes) × (q < length i.processes) × (process.now ≡ process_name i p) × (other.now ≡ process_name i q)
IsClosedPair i p q _ = ⊥

-- a message isn't there, or its rounds can't be cut there
abbrev pub IsClosedRounds : Instance → ℕ → ℕ → NotOpen → Type 0
IsClosedRounds i m r (shut.Absent x) = IsPartLacking i part.Messages m x
IsClosedRounds i m r (shut.Round message round) = (m < length i.messages) × (message.now ≡ message_name i m) × (round ≡ r)
IsClosedRounds i m r _ = ⊥

-- or its channel is decided above
abbrev pub IsClosedChan : Instance → ℕ → NotOpen → Type 0
IsClosedChan i m (shut.Absent x) = IsPartLacking i part.Messages m x
IsClosedChan i m (shut.Channel message) = (m < length i.messages) × (message.now ≡ message_name i m)
IsClosedChan i m _ = ⊥

-- by its kind
abbrev pub IsNotOpen : Instance → Kind → NotOpen → Type 0
IsNotOpen i Place x = x ≡ shut.Placed
IsNotOpen i (Cap n) x = IsClosedCap i n x
IsNotOpen i (Pair p q) x = IsClosedPair i p q x
IsNotOpen i (Round m r) x = IsClosedRounds i m r x
IsNotOpen i (Chan m) x = IsClosedChan i m x

-- ---- it has so many children, and another count would be right

abbrev pub IsPlaceCount : ℕ → ChildCount → Type 0
IsPlaceCount number (count.Places children) = children ≡ number
IsPlaceCount number _ = ⊥

abbrev pub IsCapacityCount : Instance → ℕ → ℕ → ChildCount → Type 0
IsCapacityCount i n number (count.Capacities children node capacities) =
    (children ≡ number) × (node.now ≡ node_name i n) × (capacities ≡ length (node_at i n).capacities)
IsCapacityCount i n number _ = ⊥

-- by its kind: the others always have so many
abbrev pub IsChildCount : Instance → Kind → ℕ → ChildCount → Type 0
IsChildCount i Place number x = IsPlaceCount number x
IsChildCount i (Cap n) number x = IsCapacityCount i n number x
IsChildCount i (Pair p q) number x = ⊥
IsChildCount i (Round m r) number x = ⊥
IsChildCount i (Chan m) number x = ⊥
