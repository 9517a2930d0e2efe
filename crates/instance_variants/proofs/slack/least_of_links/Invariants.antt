use Rattle.std.proofs.Common.{◌≡◌}
use Rattle.instance_variants.specs.Slack.{least, limit_of_link}
use Rattle.instance_variants.proofs.slack.least_of_links.Given as goal

abbrev pub invariant-loop-l : goal.invariant-loop-l
invariant-loop-l l = l.least ≡ least (limit_of_link l.instance l.plan l.p) l.top l.l
