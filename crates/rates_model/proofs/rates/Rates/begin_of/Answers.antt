use Rattle.std.proofs.Common.{arith}
use Rattle.rates_model.proofs.Rooms.{begin_room, job_room}
use Rattle.rates_model.proofs.rates.Rates.begin_of.Goals as goal

pub overflow_mul-result : goal.overflow_mul-result
overflow_mul-result c =
    rw c.process_at.ensures.value (omega (arith, begin_room _ c.processes-processes.ensures.keeps c.args.p c.args.k c.requires.inside c.requires.there))

pub returns-clause-room : goal.returns-clause-room
returns-clause-room c =
    let keeps = c.processes-processes.ensures.keeps in
    rw c.process_at.ensures.value (omega (arith, job_room _ keeps c.args.p c.args.k c.requires.inside c.requires.there, keeps.cycles))
