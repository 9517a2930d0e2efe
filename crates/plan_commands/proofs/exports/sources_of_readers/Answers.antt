use Rattle.std.proofs.Common.{Err, Ok}
use Rattle.std.proofs.lemmas.Result.{err_from_is_err_and}
use Rattle.plan_commands.specs.Printed.{LacksPrintedPlan}
use Rattle.plan_commands.proofs.Prints.{printed_of_readers, unread_printed}
use Rattle.plan_commands.proofs.exports.sources_of_readers.Goals as goal

pub returns-in_err-bytes-clause-judged : goal.returns-in_err-bytes-clause-judged
returns-in_err-bytes-clause-judged g c =
    let p = err_from_is_err_and c.from_residual-in_err-bytes.result c.from_residual-in_err-bytes.ensures.1 in
    rw (p.1, p.2) (unread_printed LacksPrintedPlan (g.I.Read.remaining c.args.instance.now) (g.P.Read.remaining c.args.plan.now)
    c.in_ok-stated.stated.instance c.in_err-bytes.field-0.0 c.in_ok-stated.ensures.judged c.in_err-bytes.ensures.err)

pub returns-in_err-verified-clause-judged : goal.returns-in_err-verified-clause-judged
returns-in_err-verified-clause-judged g c =
    let p = err_from_is_err_and c.from_residual-in_err-verified.result c.from_residual-in_err-verified.ensures.1 in
    let judged = rw c.as_slice-2.ensures.value at c.in_err-verified.ensures.judged in
    rw (p.1, p.2) (printed_of_readers _ _ c.in_ok-stated.stated.instance c.in_ok-bytes.bytes.items (Err c.in_err-verified.field-0.0)
    c.in_ok-stated.ensures.judged c.in_ok-bytes.ensures.read judged)

pub returns-clause-judged : goal.returns-clause-judged
returns-clause-judged g c =
    let judged = rw c.as_slice-2.ensures.value at c.in_ok-verified.ensures.judged in
    printed_of_readers _ _ c.in_ok-stated.stated.instance c.in_ok-bytes.bytes.items (Ok c.in_ok-verified.verified)
    c.in_ok-stated.ensures.judged c.in_ok-bytes.ensures.read judged
