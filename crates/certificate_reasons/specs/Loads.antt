-- Why no plan is left, by what has to run or to be sent. Own profile.
use Rattle.std.specs.Prelude.{◌≡◌, ℕ, ◌-◌, ◌*◌}
use Rattle.ttp_model.specs.Instance.{Instance, message_at, source_of}
use Rattle.ttp_model.specs.Names.{message_name, node_name, source_name}
use Rattle.tt_choice.specs.Choice.{Choice}
use Rattle.tt_choice.specs.Extremes.{cap_most}
use Rattle.certificate_reasons.specs.declared.loads.LoadReason.{LoadReason}
use Rattle.certificate_reasons.specs.declared.loads.LoadReason.TheVariants.{Frame, Frames, Halves, Load}

-- processes take longer than there is time
abbrev pub IsLoad : Instance → ℕ → ℕ → ℕ → LoadReason → Type 0
IsLoad i n a b (Load node from until ticks) = (node.now ≡ node_name i n) × (from ≡ a) × (until ≡ b) × (ticks ≡ b - a)
IsLoad i n a b _ = ⊥

-- a message has more bytes than any frame of its node
abbrev pub IsFrame : Instance → Choice → ℕ → LoadReason → Type 0
IsFrame i c m (Frame message bytes node most) =
    (message.now ≡ message_name i m) × (bytes ≡ (message_at i m).bytes) × (node.now ≡ source_name i m) × (most ≡ cap_most i c (source_of i m))
IsFrame i c m _ = ⊥

-- what a node has to send is more than its frames carry, on all channels
abbrev pub IsFrames : Instance → Choice → ℕ → ℕ → ℕ → LoadReason → Type 0
IsFrames i c n a b (Frames node from before frames most channels) =
    (node.now ≡ node_name i n) × (from ≡ a) × (before ≡ b) × (frames ≡ b - a) × (most ≡ cap_most i c n) × (channels ≡ i.cluster.channels)
IsFrames i c n a b _ = ⊥

-- or on one of them
abbrev pub IsHalves : Instance → Choice → ℕ → ℕ → ℕ → ℕ → LoadReason → Type 0
IsHalves i c k n a b (Halves channel node from before room) =
    (channel ≡ k) × (node.now ≡ node_name i n) × (from ≡ a) × (before ≡ b) × (room ≡ (b - a) * cap_most i c n)
IsHalves i c k n a b _ = ⊥
