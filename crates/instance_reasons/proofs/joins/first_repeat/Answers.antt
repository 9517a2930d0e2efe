use Rattle.std.proofs.Common.{arith}
use Rattle.instance_reasons.proofs.joins.first_repeat.Goals as goal

pub unreachable-requires : goal.unreachable-requires
unreachable-requires c = c.requires (λ k inside. c.loop-k.invariant k (omega (arith, inside, c.loop-k-test.false)))
