use Rattle.std.proofs.Common.{arith}
use Rattle.used_decisions.proofs.Tells.{more_none}
use Rattle.used_decisions.proofs.mirrors.lower.Goals as goal

pub returns-then-k-m : goal.returns-then-k-m
returns-then-k-m c = record { more = c.aside.ensures.more; told = λ read there below. c.aside.ensures.told read (omega (arith, there, below)) there }

pub returns-else-k-m : goal.returns-else-k-m
returns-else-k-m c = record { more = more_none c.args.uses.now; told = λ read there below. absurd (omega (arith, below, c.if-k-m.false)) }
