use Rattle.std.proofs.Common.{◌≡◌, take}
use Rattle.plan_sheets.specs.Slots.{spaced_names}
use Rattle.plan_sheets.proofs.slots.spaced_names.Given as goal

abbrev pub invariant-loop-m : goal.invariant-loop-m
invariant-loop-m l = l.names.items ≡ spaced_names l.instance (take l.m-index l.messages)
