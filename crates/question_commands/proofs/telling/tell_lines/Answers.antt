use Rattle.std.proofs.lemmas.Result.{err_from_is_err_and}
use Rattle.question_commands.proofs.Lines.{all_told_last, cut_last, head_cut, lines_cut}
use Rattle.question_commands.proofs.telling.tell_lines.Goals as goal

pub returns-clause-ok : goal.returns-clause-ok
returns-clause-ok g c =
    let w = g.W.Write in
    all_told_last c.args.instance.now c.args.asking.now.options c.args.late (w.contents c.args.out.now) (w.contents c.say.new.out)
    (w.contents c.tell_needs.new.out) (w.contents c.tell_behind.new.out) c.tell_needs.new.conflict c.in_ok-say.ensures.ok c.in_ok-tell_needs.ensures.lines
    c.tell_behind.result c.tell_behind.ensures.ok

pub returns-clause-err : goal.returns-clause-err
returns-clause-err g c =
    let w = g.W.Write in
    cut_last c.args.instance.now c.args.asking.now.options c.args.late (w.contents c.args.out.now) (w.contents c.say.new.out)
    (w.contents c.tell_needs.new.out) (w.contents c.tell_behind.new.out) c.tell_needs.new.conflict c.in_ok-say.ensures.ok c.in_ok-tell_needs.ensures.lines
    c.tell_behind.result c.tell_behind.ensures.err

pub returns-in_err-say-clause-err : goal.returns-in_err-say-clause-err
returns-in_err-say-clause-err g c =
    let w = g.W.Write in
    let p = err_from_is_err_and c.from_residual.result c.from_residual.ensures.1 in
    rw (p.1, p.2)
    (head_cut c.args.instance.now c.args.asking.now.options c.args.late (w.contents c.args.out.now) (w.contents c.say.new.out) (w.contents c.say.new.out)
    c.args.conflict.now c.in_err-say.field-0.0 c.requires c.in_err-say.ensures.err)

pub returns-in_err-tell_needs-clause-err : goal.returns-in_err-tell_needs-clause-err
returns-in_err-tell_needs-clause-err g c =
    let w = g.W.Write in
    let p = err_from_is_err_and c.from_residual-in_err-tell_needs.result c.from_residual-in_err-tell_needs.ensures.1 in
    rw (p.1, p.2)
    (lines_cut c.args.instance.now c.args.asking.now.options c.args.late (w.contents c.args.out.now) (w.contents c.say.new.out) (w.contents c.tell_needs.new.out)
    c.in_err-tell_needs.field-0.0 c.in_ok-say.ensures.ok c.in_err-tell_needs.ensures.err)
