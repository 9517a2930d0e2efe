use Rattle.std.proofs.Common.{◌≡◌, map}
use Rattle.std.specs.List.{range_with_len}
use Rattle.tt_choice.specs.Branches.{root_channel}
use Rattle.tt_choice.proofs.choice.root_channels.Given as goal

abbrev pub invariant-loop-m : goal.invariant-loop-m
invariant-loop-m l = l.channels.items ≡ map (root_channel l.instance) (range_with_len 0 l.m)
