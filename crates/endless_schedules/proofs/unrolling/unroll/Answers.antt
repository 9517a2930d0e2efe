use Rattle.endless_schedules.specs.Refusals.{IsUnrollFault}
use Rattle.endless_schedules.proofs.Counts.{some_processes}
use Rattle.endless_schedules.proofs.TooMany.{handed, told_fault}
use Rattle.endless_schedules.proofs.unrolling.unroll.Goals as goal

pub returns-in_err-tables-clause-err : goal.returns-in_err-tables-clause-err
returns-in_err-tables-clause-err c =
    let keeps = c.processes-processes.ensures.keeps in
    handed (IsUnrollFault c.args.rates.now) _ _ c.from_residual.ensures.1
    (told_fault c.args.rates.now keeps (some_processes c.args.rates.now keeps) _ c.in_err-tables.ensures.err)
