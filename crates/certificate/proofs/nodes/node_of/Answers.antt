use Rattle.std.proofs.Common.{◌≡◌, ◌+◌, Ok, arith}
use Rattle.std.proofs.lemmas.Result.{err_from_is_err_and}
use Rattle.certificate.specs.Versions.{allows_head}
use Rattle.certificate.specs.Words.{head_words, heads_with, count_of}
use Rattle.certificate.specs.Reading.{IsFaultOf, line_at, said_in, steps_at, text_node}
use Rattle.certificate.specs.Sources.{OrMemory}
use Rattle.certificate.proofs.Sources.{or_memory, of_part, of_bare_line, line_fails_node, word_fails_node, depth_fails_node, steps_fail_node, node_says}
use Rattle.certificate.proofs.nodes.node_of.Goals as goal

pub returns-in_err-next_line-clause-err : goal.returns-in_err-next_line-clause-err
returns-in_err-next_line-clause-err g c =
    let p = err_from_is_err_and c.from_residual.result c.from_residual.ensures.1 in
    let line = g.L.LineSource.passed c.args.source.now + 1 in
    let left = g.L.LineSource.may_leave c.args.source.now in
    let stops = g.L.LineSource.may_stop c.next_line.new.self in
    rw (p.1, p.2)
    (of_part c.in_err-next_line.field-0.0 stops (OrMemory stops) left left (line_at line) (text_node c.args.version c.args.above line) (or_memory stops) (line_fails_node c.args.version left c.args.above line)
    c.in_err-next_line.ensures.err)

pub returns-in_err-head-clause-err : goal.returns-in_err-head-clause-err
returns-in_err-head-clause-err g c =
    let p = err_from_is_err_and c.from_residual-in_err-head.result c.from_residual-in_err-head.ensures.1 in
    let line = g.L.LineSource.passed c.args.source.now + 1 in
    let first = g.L.LineSource.line c.next_line.new.self in
    let left = g.L.LineSource.may_leave c.args.source.now in
    let stops = OrMemory (g.L.LineSource.may_stop c.next_line.new.self) in
    let h : IsFaultOf ⊥ c.in_err-head.field-0.0 (said_in head_words heads_with (allows_head c.args.version) (g.L.LineSource.passed c.args.source.now + 1) (g.L.LineSource.line c.next_line.new.self)) =
    rw (← c.number-number.ensures, ← c.line.ensures) c.in_err-head.ensures in
    rw (p.1, p.2)
    (of_bare_line c.in_err-head.field-0.0 stops left (said_in head_words heads_with (allows_head c.args.version) line first) (text_node c.args.version c.args.above line)
    (word_fails_node c.args.version left (g.L.LineSource.may_leave c.next_line.new.self) c.args.above line first c.in_ok-next_line.ensures.said c.in_ok-next_line.ensures.has) h)

pub returns-then-above-gt-MOST_BRANCHES_ABOVE-clause-err : goal.returns-then-above-gt-MOST_BRANCHES_ABOVE-clause-err
returns-then-above-gt-MOST_BRANCHES_ABOVE-clause-err g c =
    let said : said_in head_words heads_with (allows_head c.args.version) (g.L.LineSource.passed c.args.source.now + 1) (g.L.LineSource.line c.next_line.new.self) ≡ Ok c.in_ok-head.head =
    rw (← c.number-number.ensures, ← c.line.ensures) c.in_ok-head.ensures in
    rw (c.at.ensures, c.number-number.ensures)
    (depth_fails_node c.args.version (g.L.LineSource.may_leave c.args.source.now) (g.L.LineSource.may_leave c.next_line.new.self) c.args.above (g.L.LineSource.passed c.args.source.now + 1)
    (g.L.LineSource.line c.next_line.new.self) c.in_ok-next_line.ensures.said c.in_ok-next_line.ensures.has c.in_ok-head.head said c.if-above-gt-MOST_BRANCHES_ABOVE.true)

pub returns-in_err-steps-clause-err : goal.returns-in_err-steps-clause-err
returns-in_err-steps-clause-err g c =
    let p = err_from_is_err_and c.from_residual-in_err-steps.result c.from_residual-in_err-steps.ensures.1 in
    let line = g.L.LineSource.passed c.args.source.now + 1 in
    let next = g.L.LineSource.passed c.next_line.new.self + 1 in
    let left = g.L.LineSource.may_leave c.args.source.now in
    let mid = g.L.LineSource.may_leave c.next_line.new.self in
    let stops = OrMemory (g.L.LineSource.may_stop c.steps_of.new.source) in
    let said : said_in head_words heads_with (allows_head c.args.version) (g.L.LineSource.passed c.args.source.now + 1) (g.L.LineSource.line c.next_line.new.self) ≡ Ok c.in_ok-head.head =
    rw (← c.number-number.ensures, ← c.line.ensures) c.in_ok-head.ensures in
    let behind = rw c.count_of.ensures at c.in_err-steps.ensures.err in
    rw (p.1, p.2)
    (of_part c.in_err-steps.field-0.0 stops stops mid left (steps_at c.args.version (count_of c.in_ok-head.head) next) (text_node c.args.version c.args.above line) (λ x h. h)
    (steps_fail_node c.args.version left mid c.args.above line next (g.L.LineSource.line c.next_line.new.self) c.in_ok-next_line.ensures.said c.in_ok-head.head said
    c.if-above-gt-MOST_BRANCHES_ABOVE.false (omega (arith, c.in_ok-next_line.ensures.passed))) behind)

pub returns-clause-said : goal.returns-clause-said
returns-clause-said g c =
    let said : said_in head_words heads_with (allows_head c.args.version) (g.L.LineSource.passed c.args.source.now + 1) (g.L.LineSource.line c.next_line.new.self) ≡ Ok c.in_ok-head.head =
    rw (← c.number-number.ensures, ← c.line.ensures) c.in_ok-head.ensures in
    let behind = rw c.count_of.ensures at c.in_ok-steps.ensures.said in
    rw c.node_with.ensures
    (node_says c.args.version (g.L.LineSource.may_leave c.args.source.now) (g.L.LineSource.may_leave c.next_line.new.self) (g.L.LineSource.may_leave c.steps_of.new.source) c.args.above
    (g.L.LineSource.passed c.args.source.now + 1) (g.L.LineSource.passed c.next_line.new.self + 1) (g.L.LineSource.line c.next_line.new.self) c.in_ok-next_line.ensures.said
    c.in_ok-head.head said c.if-above-gt-MOST_BRANCHES_ABOVE.false (omega (arith, c.in_ok-next_line.ensures.passed)) c.in_ok-steps.steps.items behind)
