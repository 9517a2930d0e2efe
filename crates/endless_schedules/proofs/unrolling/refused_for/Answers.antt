use Rattle.endless_schedules.proofs.Counts.{some_processes}
use Rattle.endless_schedules.proofs.TooMany.{told_fault}
use Rattle.endless_schedules.proofs.unrolling.refused_for.Goals as goal

pub returns-in-Err : goal.returns-in-Err
returns-in-Err c =
    let keeps = c.processes-processes.ensures.keeps in
    rw c.from.ensures (told_fault c.args.rates.now keeps (some_processes c.args.rates.now keeps) c.in-Err.fault c.in-Err.ensures.err)
