use Rattle.std.proofs.Common.{◌≡◌, ◌++◌, string_bytes}
use Rattle.std.specs.List.{flat_map, range_with_len}
use Rattle.plan_sheets.specs.Rows.{channel_text}
use Rattle.plan_sheets.proofs.pictures.rows.put_channels.Given as goal

abbrev pub invariant-loop-channel : goal.invariant-loop-channel
invariant-loop-channel l = string_bytes l.text ≡ string_bytes l.initial.text ++ flat_map (channel_text l.canvas) (range_with_len 0 l.channel)
