use Rattle.std.proofs.lemmas.Result.{err_from_is_err_and}
use Rattle.plan_questions.proofs.Told.{conflict_shows}
use Rattle.question_commands.proofs.Lines.{all_behind, late_cut, others_cut}
use Rattle.question_commands.proofs.telling.tell_behind.Goals as goal

pub tell_late-requires-after_bounds : goal.tell_late-requires-after_bounds
tell_late-requires-after_bounds g c = λ κs alive.
    conflict_shows c.args.instance.now c.args.asking.now.options c.args.conflict.now.kept c.args.conflict.now.cert c.args.conflict.now.needed.items
    c.nodes-nodes.ensures.instance c.requires.narrowing.known

pub returns-clause-ok : goal.returns-clause-ok
returns-clause-ok g c =
    all_behind c.args.instance.now c.args.asking.now.options c.args.late c.args.conflict.now c.requires.narrowing.known c.in_ok-needs.needs.items
    c.in_ok-needs.ensures.marked (g.W.Write.contents c.args.out.now) (g.W.Write.contents c.tell_others.new.out) (g.W.Write.contents c.tell_late.new.out)
    c.in_ok-needs.ensures.lines c.in_ok-lateness.lateness c.in_ok-lateness.ensures.late c.in_ok-lateness.ensures.asked c.in_ok-lateness.ensures.lines

pub returns-in_err-needs-clause-err : goal.returns-in_err-needs-clause-err
returns-in_err-needs-clause-err g c =
    let p = err_from_is_err_and c.from_residual.result c.from_residual.ensures.1 in
    rw (p.1, p.2)
    (others_cut c.args.instance.now c.args.asking.now.options c.args.late c.args.conflict.now c.requires.narrowing.known
    (g.W.Write.contents c.args.out.now) (g.W.Write.contents c.tell_others.new.out) c.in_err-needs.field-0.0 c.in_err-needs.ensures.err)

pub returns-in_err-lateness-clause-err : goal.returns-in_err-lateness-clause-err
returns-in_err-lateness-clause-err g c =
    let p = err_from_is_err_and c.from_residual-in_err-lateness.result c.from_residual-in_err-lateness.ensures.1 in
    rw (p.1, p.2)
    (late_cut c.args.instance.now c.args.asking.now.options c.args.late c.args.conflict.now c.requires.narrowing.known c.in_ok-needs.needs.items
    c.in_ok-needs.ensures.marked (g.W.Write.contents c.args.out.now) (g.W.Write.contents c.tell_others.new.out) (g.W.Write.contents c.tell_late.new.out)
    c.in_ok-needs.ensures.lines c.in_err-lateness.field-0.0 c.in_err-lateness.ensures.err)
