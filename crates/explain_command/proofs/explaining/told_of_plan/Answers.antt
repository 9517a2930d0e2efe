use Rattle.std.proofs.Common.{IfErr, IfOk, string_bytes}
use Rattle.std.proofs.lemmas.Result.{err_from_is_err_and}
use Rattle.explain_command.specs.Plans.{IsPlanUnread, TellsPlanBytes}
use Rattle.explain_command.proofs.Told.{plan_unread, said_of_reader}
use Rattle.explain_command.proofs.explaining.told_of_plan.Goals as goal

pub returns-clause-ok : goal.returns-clause-ok
returns-clause-ok g c =
    said_of_reader (λ p told. IfOk told (λ text. TellsPlanBytes c.args.instance.now p (string_bytes text))) _ c.in_ok-bytes.bytes.items _
    c.in_ok-bytes.ensures.read (rw c.as_slice.ensures.value at c.told_of_text.ensures.ok)

pub returns-clause-err : goal.returns-clause-err
returns-clause-err g c =
    said_of_reader (λ p told. IfErr told (IsPlanUnread p)) _ c.in_ok-bytes.bytes.items _ c.in_ok-bytes.ensures.read
    (rw c.as_slice.ensures.value at c.told_of_text.ensures.err)

pub returns-in_err-bytes-clause-err : goal.returns-in_err-bytes-clause-err
returns-in_err-bytes-clause-err g c =
    let p = err_from_is_err_and c.from_residual.result c.from_residual.ensures.1 in
    rw (p.1, p.2) (plan_unread (g.P.Read.remaining c.args.plan.now) c.in_err-bytes.field-0.0 c.in_err-bytes.ensures.err)
