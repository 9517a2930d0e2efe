-- What there is room for. Own profile.
use Rattle.std.specs.Prelude.{◌≡◌, ℕ, ◌+◌, ◌-◌, ◌*◌, ◌<◌, ◌≤◌, length}
use Rattle.ttp_model.specs.Instance.{Instance, message_at, source_of}
use Rattle.ttp_model.specs.Names.{message_name, node_name, source_name}
use Rattle.ttp_model.specs.Totals.{total}
use Rattle.tt_choice.specs.Choice.{Choice}
use Rattle.tt_choice.specs.Extremes.{cap_most}
use Rattle.sought_plans.specs.Known.{Known}
use Rattle.sought_plans.specs.Premises.{bytes_copied, bytes_counted, load_within}
use Rattle.certificate_reasons.specs.declared.load_lacks.LoadLack.{LoadLack}
use Rattle.certificate_reasons.specs.declared.load_lacks.LoadLack.TheVariants.{Frame, Frames, Halves, Load, Turned}

-- a span ends before it begins, by some
abbrev pub IsTurned : ℕ → ℕ → LoadLack → Type 0
IsTurned a b (Turned from until by) = (from ≡ a) × (until ≡ b) × (0 < by) × (until + by ≡ from)
IsTurned a b _ = ⊥

-- or what has to run on node n takes no longer than there is time
abbrev pub IsLoadRoom : Instance → Known → ℕ → ℕ → ℕ → LoadLack → Type 0
IsLoadRoom i f n a b (Turned from until by) = IsTurned a b (Turned from until by)
IsLoadRoom i f n a b (Load node from until load ticks) =
    (node.now ≡ node_name i n) × (from ≡ a) × (until ≡ b) × (load ≡ total (load_within i f n a b) (length i.processes)) × (ticks ≡ b - a) × (load ≤ ticks)
IsLoadRoom i f n a b _ = ⊥

-- message m fits into a frame
abbrev pub IsFrameRoom : Instance → Choice → ℕ → LoadLack → Type 0
IsFrameRoom i c m (Frame message bytes node most) =
    (message.now ≡ message_name i m) × (bytes ≡ (message_at i m).bytes) × (node.now ≡ source_name i m) × (most ≡ cap_most i c (source_of i m)) × (bytes ≤ most)
IsFrameRoom i c m _ = ⊥

-- a span ends before it begins, or what node n has to send fits into its frames, on all channels
abbrev pub IsFramesRoom : Instance → Choice → Known → ℕ → ℕ → ℕ → LoadLack → Type 0
IsFramesRoom i c f n a b (Turned from until by) = IsTurned a b (Turned from until by)
IsFramesRoom i c f n a b (Frames node from before bytes room) =
    (node.now ≡ node_name i n) × (from ≡ a) × (before ≡ b) × (bytes ≡ total (bytes_copied i c f n a b) (length i.messages))
    × (room ≡ i.cluster.channels * ((b - a) * cap_most i c n)) × (bytes ≤ room)
IsFramesRoom i c f n a b _ = ⊥

-- or on channel k
abbrev pub IsHalvesRoom : Instance → Choice → Known → ℕ → ℕ → ℕ → ℕ → LoadLack → Type 0
IsHalvesRoom i c f k n a b (Turned from until by) = IsTurned a b (Turned from until by)
IsHalvesRoom i c f k n a b (Halves channel node from before bytes room) =
    (channel ≡ k) × (node.now ≡ node_name i n) × (from ≡ a) × (before ≡ b) × (bytes ≡ total (bytes_counted i c f k n a b) (length i.messages))
    × (room ≡ (b - a) * cap_most i c n) × (bytes ≤ room)
IsHalvesRoom i c f k n a b _ = ⊥
