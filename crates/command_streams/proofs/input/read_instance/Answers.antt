use Rattle.std.proofs.lemmas.Result.{err_from_is_err_and}
use Rattle.command_streams.proofs.StatedOnce.{read_only, unread_judged, unread_only}
use Rattle.command_streams.proofs.input.read_instance.Goals as goal

pub returns-in_err-bytes-clause-only : goal.returns-in_err-bytes-clause-only
returns-in_err-bytes-clause-only g c =
    let p = err_from_is_err_and c.from_residual.result c.from_residual.ensures.1 in
    rw (p.1, p.2) (unread_only (g.R.Read.remaining c.args.reader.now) c.in_err-bytes.field-0.0 c.in_err-bytes.ensures.err)

pub returns-in_err-bytes-clause-judged : goal.returns-in_err-bytes-clause-judged
returns-in_err-bytes-clause-judged g c =
    let p = err_from_is_err_and c.from_residual.result c.from_residual.ensures.1 in
    rw (p.1, p.2) (unread_judged (g.R.Read.remaining c.args.reader.now) c.in_err-bytes.field-0.0 c.in_err-bytes.ensures.err)

pub returns-clause-only : goal.returns-clause-only
returns-clause-only g c =
    read_only (g.R.Read.remaining c.args.reader.now) c.in_ok-bytes.bytes.items c.instance_of_text.result c.in_ok-bytes.ensures.read
    (rw c.as_slice.ensures.value at c.instance_of_text.ensures.only)
