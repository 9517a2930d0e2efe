use Rattle.std.proofs.Common.{◌≡◌, ◌∙◌, true, arith}
use Rattle.std.proofs.lemmas.Result.{err_from_is_err_and}
use Rattle.question_commands.proofs.Lines.{late_unsaid}
use Rattle.question_commands.proofs.telling.tell_late.Goals as goal

pub returns-in_err-say-clause-err : goal.returns-in_err-say-clause-err
returns-in_err-say-clause-err g c =
    let p = err_from_is_err_and c.from_residual-in_err-say.result c.from_residual-in_err-say.ensures.1 in
    let on : c.args.wanted ≡ true = grind arith in
    rw (p.1, p.2)
    (late_unsaid c.args.instance.now c.args.asking.now.options (g.W.Write.contents c.args.out.now) (g.W.Write.contents c.say.new.out)
    c.in_err-say.field-0.0 c.as_slice.result.now c.in_err-say.ensures.err c.args.wanted c.in-Ok.lateness on c.in-Ok.ensures
    (c.as_slice.ensures.value ∙ c.in_ok-line.ensures))
