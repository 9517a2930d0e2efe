use Rattle.std.proofs.Common.{◌≡◌}
use Rattle.instance_variants.specs.Slack.{least, limit_of_process}
use Rattle.instance_variants.proofs.slack.least_of_processes.Given as goal

abbrev pub invariant-loop-q : goal.invariant-loop-q
invariant-loop-q l = l.least ≡ least (limit_of_process l.instance l.plan l.p) l.top l.q
