use Rattle.used_decisions.proofs.Tells.{more_none}
use Rattle.used_decisions.proofs.others.other.Goals as goal

pub returns-then-k-m : goal.returns-then-k-m
returns-then-k-m c = record { more = more_none c.args.uses.now; told = λ read there differ. absurd (differ c.if-k-m.true) }

pub returns : goal.returns
returns c = record { more = c.not_in_round.ensures.more; told = λ read there differ. c.not_in_round.ensures.told read there }
