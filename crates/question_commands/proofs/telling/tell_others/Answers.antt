use Rattle.std.proofs.Common.{◌∙◌, ap}
use Rattle.std.proofs.lemmas.Result.{err_from_is_err_and}
use Rattle.command_streams.proofs.Outcomes.{keeps}
use Rattle.question_commands.specs.Words.{others_text}
use Rattle.question_commands.proofs.Told.{are_of}
use Rattle.question_commands.proofs.Lines.{others_unsaid}
use Rattle.question_commands.proofs.telling.tell_others.Goals as goal

pub others_text-requires : goal.others_text-requires
others_text-requires g c =
    let marked = c.in_ok-needs.ensures c.args.instance.now c.args.asking.now.options c.requires.narrowing c.requires.end in
    rw c.as_slice.ensures.value
    (are_of c.args.instance.now c.args.asking.now.options c.args.conflict.now.kept c.args.conflict.now.needed.items c.in_ok-needs.needs.items
    c.requires.narrowing.known.fewer marked)

pub returns-in_err-needs-clause-err : goal.returns-in_err-needs-clause-err
returns-in_err-needs-clause-err g c =
    let p = err_from_is_err_and c.from_residual.result c.from_residual.ensures.1 in
    rw (p.1, p.2) (keeps (g.W.Write.contents c.args.out.now))

pub returns-in_err-text-clause-err : goal.returns-in_err-text-clause-err
returns-in_err-text-clause-err g c =
    let p = err_from_is_err_and c.from_residual-in_err-text.result c.from_residual-in_err-text.ensures.1 in
    rw (p.1, p.2) (keeps (g.W.Write.contents c.args.out.now))

pub returns-in_err-say-clause-err : goal.returns-in_err-say-clause-err
returns-in_err-say-clause-err g c =
    let p = err_from_is_err_and c.from_residual-in_err-say.result c.from_residual-in_err-say.ensures.1 in
    let marked = c.in_ok-needs.ensures c.args.instance.now c.args.asking.now.options c.requires.narrowing c.requires.end in
    let same = c.as_slice-2.ensures.value ∙ c.in_ok-text.ensures ∙ ap (others_text c.args.instance.now) c.as_slice.ensures.value in
    rw (p.1, p.2)
    (others_unsaid c.args.instance.now c.args.asking.now.options (g.W.Write.contents c.args.out.now) (g.W.Write.contents c.say.new.out)
    c.in_err-say.field-0.0 c.as_slice-2.result.now c.in_err-say.ensures.err c.args.conflict.now c.in_ok-needs.needs.items marked same)
