use Rattle.std.proofs.Common.{◌≡◌}
use Rattle.instance_variants.specs.Slack.{least}
use Rattle.plan_sheets.specs.Names.{ticks_to}
use Rattle.plan_sheets.proofs.pictures.names.room_of.Given as goal

abbrev pub invariant-loop-m : goal.invariant-loop-m
invariant-loop-m l = l.room ≡ least (ticks_to l.canvas l.instance l.plan l.slot) l.canvas.cycle l.m
