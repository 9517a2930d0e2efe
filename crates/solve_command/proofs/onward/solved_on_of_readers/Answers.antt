use Rattle.std.proofs.lemmas.Result.{err_from_is_err_and}
use Rattle.solve_command.proofs.Continued.{found_on, uncertified, unstarted}
use Rattle.solve_command.proofs.onward.solved_on_of_readers.Goals as goal

pub returns-in_err-begun-clause-judged : goal.returns-in_err-begun-clause-judged
returns-in_err-begun-clause-judged g c =
    let p = err_from_is_err_and c.from_residual.result c.from_residual.ensures.1 in
    rw (p.1, p.2) (unstarted g.P.Read.remaining c.args.start.now _ _ c.in_err-begun.field-0.0 c.in_err-begun.ensures.judged)

pub returns-in-Ok-clause-judged : goal.returns-in-Ok-clause-judged
returns-in-Ok-clause-judged g c =
    found_on g.P.Read.remaining c.args.start.now c.in_ok-begun.begun c.in-Ok.proof c.args.on _ _ _ _ c.in_ok-begun.ensures.judged
    c.in-Ok.ensures.judged c.solved_on.ensures.found

pub returns-in-Err-clause-judged : goal.returns-in-Err-clause-judged
returns-in-Err-clause-judged g c =
    uncertified g.P.Read.remaining c.args.start.now c.in_ok-begun.begun _ _ c.in-Err.fault c.in_ok-begun.ensures.judged c.in-Err.ensures.judged
