use Rattle.std.proofs.Common.{◌-◌, ◌^◌}
use Rattle.cert_check.proofs.Streams.{IsPassed}
use Rattle.cert_check.proofs.ahead.pass_nodes.Given as goal

abbrev pub invariant-rest : goal.invariant-rest
invariant-rest g l = IsPassed g.R.Read.remaining l.fn.stream l.stream

abbrev pub decreases-rest : goal.decreases-rest
decreases-rest g l = 2 ^ 64 - l.stream.lines.block.passed
