use Rattle.std.proofs.Common.{◌≡◌}
use Rattle.instance_variants.specs.Slack.{least, slack}
use Rattle.instance_variants.specs.Longer.{allowed_of}
use Rattle.instance_variants.proofs.margins.own_margin.Given as goal

abbrev pub invariant-loop-p : goal.invariant-loop-p
invariant-loop-p l = l.least ≡ least (allowed_of l.instance l.processes l.scale (slack l.instance l.plan) l.top) l.top l.p
