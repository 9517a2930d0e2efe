use Rattle.std.proofs.Common.{length, arith}
use Rattle.plan_sheets.proofs.Placing.{below-all, below-apart, below-sorted}
use Rattle.plan_sheets.proofs.laws.dispatch_has_each_process.Goals as goal

pub returns-clause-all : goal.returns-clause-all
returns-clause-all c = λ i plan n. below-all i plan n (length i.processes)

pub returns-clause-sorted : goal.returns-clause-sorted
returns-clause-sorted c = λ i plan n. below-sorted i plan n (length i.processes)

pub returns-clause-apart : goal.returns-clause-apart
returns-clause-apart c = λ i plan n wi w. below-apart i plan n wi w (length i.processes) (omega arith)
