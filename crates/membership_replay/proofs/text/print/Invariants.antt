use Rattle.std.proofs.Common.{◌≡◌, ◌++◌, codes, take}
use Rattle.std.specs.List.{flat_map}
use Rattle.membership_replay.specs.Text.{slot_text}
use Rattle.membership_replay.proofs.text.print.Given as goal

abbrev pub invariant-loop-slot : goal.invariant-loop-slot
invariant-loop-slot l = l.text.items ≡ codes "ttreplay 1\n" ++ flat_map (slot_text l.instance) (take l.slot-index l.slot-items)
