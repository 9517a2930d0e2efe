-- What has to stand in each line of a plan's text: what is read there. Own profile.
use Rattle.std.specs.Prelude.{◌≡◌, ℕ, ◌+◌, ◌<◌, ◌≤◌, if◌then◌else◌, length}
use Rattle.ttp_model.specs.Instance.{Instance}
use Rattle.ttp_model.specs.Names.{message_name, node_name, process_name}
use Rattle.plan_format.specs.Channels.{has_two_channels}
use Rattle.plan_format.specs.Reading.{channels_line, end_line}
use Rattle.plan_reasons.specs.declared.forms.Form.{Form}
use Rattle.plan_reasons.specs.declared.forms.Form.TheVariants.{Capacity, Channel, Delay, End, Order, Round, Start, Version}

-- in the line of a number, counted from 1
abbrev pub IsFormOf : Instance → ℕ → Form → Type 0
IsFormOf i line (Version version) = (line ≤ 1) × (version ≡ (if has_two_channels i then 2 else 1))
IsFormOf i line Delay = line ≡ 2
IsFormOf i line Order = line ≡ 3
IsFormOf i line (Capacity name) = (n : ℕ) × (n < length i.nodes) × (line ≡ 4 + n) × (name.now ≡ node_name i n)
IsFormOf i line (Start name) = (p : ℕ) × (p < length i.processes) × (line ≡ 4 + length i.nodes + p) × (name.now ≡ process_name i p)
IsFormOf i line (Round name) =
    (m : ℕ) × (m < length i.messages) × (line ≡ 4 + length i.nodes + length i.processes + m) × (name.now ≡ message_name i m)
IsFormOf i line (Channel name) =
    (m : ℕ) × (i.cluster.channels ≡ 2) × (m < length i.messages) × (line ≡ channels_line i + m) × (name.now ≡ message_name i m)
IsFormOf i line End = end_line i ≤ line
