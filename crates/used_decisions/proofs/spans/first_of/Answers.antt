use Rattle.std.proofs.Common.{arith}
use Rattle.used_decisions.proofs.Tells.{more_none}
use Rattle.used_decisions.proofs.spans.first_of.Goals as goal

pub returns-then-a-eq0 : goal.returns-then-a-eq0
returns-then-a-eq0 c = record { more = more_none c.args.uses.now; told = λ read there some. absurd (omega (arith, some, c.if-a-eq0.true)) }

pub returns : goal.returns
returns c = record { more = c.least.ensures.more; told = λ read there some. c.least.ensures.told read there }
