use Rattle.std.proofs.Common.{arith}
use Rattle.tt_choice.proofs.Open.{next_fits}
use Rattle.tt_choice.proofs.choice.decisions.side.Goals as goal

pub returns-then-r-eq4294967295-clause-some : goal.returns-then-r-eq4294967295-clause-some
returns-then-r-eq4294967295-clause-some c = λ i choice w ok is.
    absurd (omega (arith, c.if-r-eq4294967295.true, next_fits i choice c.args.m c.args.r w ok is))
