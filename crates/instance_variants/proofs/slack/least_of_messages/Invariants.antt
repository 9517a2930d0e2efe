use Rattle.std.proofs.Common.{◌≡◌}
use Rattle.instance_variants.specs.Slack.{least, limit_of_message}
use Rattle.instance_variants.proofs.slack.least_of_messages.Given as goal

abbrev pub invariant-loop-m : goal.invariant-loop-m
invariant-loop-m l = l.least ≡ least (limit_of_message l.instance l.plan l.p) l.top l.m
