use Rattle.std.proofs.lemmas.Result.{err_from_is_err_and}
use Rattle.plan_commands.specs.Judged.{IsRefusedPlace}
use Rattle.plan_commands.proofs.Prints.{unread_printed}
use Rattle.plan_commands.proofs.Standings.{standing_of_readers}
use Rattle.plan_commands.proofs.judge.standing_of_readers.Goals as goal

pub returns-clause-judged : goal.returns-clause-judged
returns-clause-judged g c =
    let judged = rw c.as_slice.ensures.value at c.standing_of_text.ensures.judged in
    standing_of_readers _ _ c.in_ok-instance.instance c.in_ok-bytes.bytes.items _ c.in_ok-instance.ensures.judged c.in_ok-bytes.ensures.read judged

pub returns-in_err-bytes-clause-judged : goal.returns-in_err-bytes-clause-judged
returns-in_err-bytes-clause-judged g c =
    let p = err_from_is_err_and c.from_residual-in_err-bytes.result c.from_residual-in_err-bytes.ensures.1 in
    rw (p.1, p.2) (unread_printed IsRefusedPlace (g.I.Read.remaining c.args.instance.now) (g.P.Read.remaining c.args.plan.now)
    c.in_ok-instance.instance c.in_err-bytes.field-0.0 c.in_ok-instance.ensures.judged c.in_err-bytes.ensures.err)
