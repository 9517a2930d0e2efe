use Rattle.std.proofs.Common.{◌≡◌}
use Rattle.instance_variants.specs.Slack.{least}
use Rattle.instance_variants.specs.Longer.{allowed_of, most_number, room}
use Rattle.instance_variants.proofs.margins.window_margin.Given as goal

abbrev pub invariant-loop-p : goal.invariant-loop-p
invariant-loop-p l = l.least ≡ least (allowed_of l.instance l.processes l.scale (room l.instance) most_number) most_number l.p
