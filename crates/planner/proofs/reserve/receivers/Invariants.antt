use Rattle.std.proofs.Common.{◌≡◌, ◌-◌, ◌^◌, min, take}
use Rattle.planner.specs.Held.{receivers_in}
use Rattle.planner.proofs.reserve.receivers.Given as goal

abbrev pub invariant-loop-message : goal.invariant-loop-message
invariant-loop-message l = l.count ≡ min (receivers_in (take l.message-index l.messages)) (2 ^ 64 - 1)
