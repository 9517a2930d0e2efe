use Rattle.cert_check.specs.Waiting.{Waits}
use Rattle.cert_check.proofs.Taking.{waits_in_front}
use Rattle.cert_check.proofs.judge.Judge.next_batch.Goals as goal

pub beside-requires-clause-waits : goal.beside-requires-clause-waits
beside-requires-clause-waits g c κs within =
    waits_in_front (Waits c.args.self.now.instance.now) c.args.leaves.now c.args.batches.now.held.leaves.items c.requires.somewhere.1.under_way.waits

pub beside-requires-clause-somewhere : goal.beside-requires-clause-somewhere
beside-requires-clause-somewhere g c κs within = (c.args.self.now.low, c.requires.somewhere.0, c.args.leaves.now, c.requires.somewhere.1)

pub told-requires : goal.told-requires
told-requires g c =
    let s = c.requires.somewhere in
    record { waits = (c.args.self.now.instance.now, (c.beside.ensures.on.stands c.args.self.now.low s.0 c.args.leaves.now s.1).under_way.waits) }

pub returns-in-Err-clause-answers : goal.returns-in-Err-clause-answers
returns-in-Err-clause-answers g c = λ first s.
    let i = c.args.self.now.instance.now in
    let low = c.args.self.now.low in
    c.told.ensures.answers i low first (c.beside.ensures.on.stands low first c.args.leaves.now s) (rw c.in-Err.is at c.beside.ensures.judges)

pub returns-in-Err-clause-from : goal.returns-in-Err-clause-from
returns-in-Err-clause-from g c = λ first s origin is.
    c.told.ensures.from origin ((c.beside.ensures.on.stands c.args.self.now.low first c.args.leaves.now s).from origin is)
