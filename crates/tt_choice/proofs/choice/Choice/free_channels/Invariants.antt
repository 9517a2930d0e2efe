use Rattle.std.proofs.Common.{◌≡◌, ◌≤◌, take, count_by, is_none}
use Rattle.tt_choice.proofs.choice.Choice.free_channels.Given as goal

abbrev pub invariant-loop-channel : goal.invariant-loop-channel
invariant-loop-channel l = (l.free ≡ count_by is_none (take l.channel-index l.self.channels)) × (l.free ≤ l.channel-index)
