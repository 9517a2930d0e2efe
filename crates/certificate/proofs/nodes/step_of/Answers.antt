use Rattle.std.proofs.Common.{◌≡◌, ◌+◌, Ok}
use Rattle.std.proofs.lemmas.Result.{err_from_is_err_and}
use Rattle.certificate.specs.Versions.{allows_step}
use Rattle.certificate.specs.Words.{step_words, steps_with}
use Rattle.certificate.specs.Reading.{IsFaultOf, line_at, said_in, text_step}
use Rattle.certificate.specs.Sources.{OrMemory}
use Rattle.certificate.proofs.Sources.{or_memory, of_part, of_line, line_fails_step, word_fails_step, step_says}
use Rattle.certificate.proofs.nodes.step_of.Goals as goal

pub returns-in_err-next_line-clause-err : goal.returns-in_err-next_line-clause-err
returns-in_err-next_line-clause-err g c =
    let p = err_from_is_err_and c.from_residual.result c.from_residual.ensures.1 in
    let line = g.L.LineSource.passed c.args.source.now + 1 in
    let left = g.L.LineSource.may_leave c.args.source.now in
    let stops = g.L.LineSource.may_stop c.next_line.new.self in
    rw (p.1, p.2)
    (of_part c.in_err-next_line.field-0.0 stops (OrMemory stops) left left (line_at line) (text_step c.args.version line) (or_memory stops) (line_fails_step c.args.version left line) c.in_err-next_line.ensures.err)

pub returns-in_err-step-clause-err : goal.returns-in_err-step-clause-err
returns-in_err-step-clause-err g c =
    let p = err_from_is_err_and c.from_residual-in_err-step.result c.from_residual-in_err-step.ensures.1 in
    let line = g.L.LineSource.passed c.args.source.now + 1 in
    let first = g.L.LineSource.line c.next_line.new.self in
    let left = g.L.LineSource.may_leave c.args.source.now in
    let stops = g.L.LineSource.may_stop c.next_line.new.self in
    let h : IsFaultOf (Unit {0}) c.in_err-step.field-0.0 (said_in step_words steps_with (allows_step c.args.version) (g.L.LineSource.passed c.args.source.now + 1) (g.L.LineSource.line c.next_line.new.self)) =
    rw (← c.number-number.ensures, ← c.line.ensures) c.in_err-step.ensures in
    rw (p.1, p.2)
    (of_line c.in_err-step.field-0.0 stops left (said_in step_words steps_with (allows_step c.args.version) line first) (text_step c.args.version line)
    (word_fails_step c.args.version left (g.L.LineSource.may_leave c.next_line.new.self) line first c.in_ok-next_line.ensures.said c.in_ok-next_line.ensures.has) h)

pub returns-clause-said : goal.returns-clause-said
returns-clause-said g c =
    let said : said_in step_words steps_with (allows_step c.args.version) (g.L.LineSource.passed c.args.source.now + 1) (g.L.LineSource.line c.next_line.new.self) ≡ Ok c.in_ok-step.step =
    rw (← c.number-number.ensures, ← c.line.ensures) c.in_ok-step.ensures in
    step_says c.args.version (g.L.LineSource.may_leave c.args.source.now) (g.L.LineSource.may_leave c.next_line.new.self) (g.L.LineSource.passed c.args.source.now + 1)
    (g.L.LineSource.line c.next_line.new.self) c.in_ok-next_line.ensures.said c.in_ok-step.step said
