use Rattle.std.proofs.Common.{arith}
use Rattle.planner.proofs.solving.brought_out.Goals as goal

pub worked_out-requires-clause-searching : goal.worked_out-requires-clause-searching
worked_out-requires-clause-searching g c κs within = rw c.in-Err.ensures.err c.requires.searching

pub worked_out-requires-clause-within : goal.worked_out-requires-clause-within
worked_out-requires-clause-within g c κs within = rw c.in-Err.ensures.err c.requires.within

pub returns-in-Ok-clause-called_off : goal.returns-in-Ok-clause-called_off
returns-in-Ok-clause-called_off g c = λ off. absurd (c.in-Ok.ensures.called_off off)

pub returns-in-Ok-clause-no_later : goal.returns-in-Ok-clause-no_later
returns-in-Ok-clause-no_later g c = rw c.in-Ok.ensures.best (omega arith)

pub returns-in-Err-clause-no_later : goal.returns-in-Err-clause-no_later
returns-in-Err-clause-no_later g c = rw (← c.in-Err.ensures.err) c.worked_out.ensures.no_later
