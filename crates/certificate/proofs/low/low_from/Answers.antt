use Rattle.std.proofs.Common.{◌≡◌, ◌+◌, Some, None, Ok, sym, arith}
use Rattle.std.proofs.lemmas.Result.{err_from_is_err_and}
use Rattle.certificate.specs.Versions.{version_of, allows_low}
use Rattle.certificate.specs.Words.{low_words, lows_with}
use Rattle.certificate.specs.Reading.{IsFaultOf, line_at, said_in, low_at}
use Rattle.certificate.proofs.Sources.{of_part, of_bare_line}
use Rattle.certificate.proofs.LowSource.{first_line_fails, version_fails, second_line_fails, word_fails, low_says}
use Rattle.certificate.proofs.low.low_from.Goals as goal

pub returns-in_err-next_line-clause-err : goal.returns-in_err-next_line-clause-err
returns-in_err-next_line-clause-err g c =
    let p = err_from_is_err_and c.from_residual.result c.from_residual.ensures.1 in
    let one = g.L.LineSource.passed c.args.source.now + 1 in
    let left = g.L.LineSource.may_leave c.args.source.now in
    let stops = g.L.LineSource.may_stop c.next_line.new.self in
    rw (p.1, p.2)
    (of_part c.in_err-next_line.field-0.0 stops stops left left (line_at one) low_at (λ x h. h) (first_line_fails left one (omega (arith, c.requires))) c.in_err-next_line.ensures.err)

pub returns-in_default-clause-err : goal.returns-in_default-clause-err
returns-in_default-clause-err g c =
    let other : version_of c.line.result.now ≡ None = sym c.in_default.ensures in
    rw c.at.ensures
    (version_fails (g.L.LineSource.may_leave c.args.source.now) (g.L.LineSource.may_leave c.next_line.new.self) (g.L.LineSource.passed c.args.source.now + 1) (omega (arith, c.requires))
    (g.L.LineSource.line c.next_line.new.self) c.in_ok-next_line.ensures.said c.in_ok-next_line.ensures.has (rw (← c.line.ensures) other))

pub returns-in_err-next_line-2-clause-err : goal.returns-in_err-next_line-2-clause-err
returns-in_err-next_line-2-clause-err g c =
    let p = err_from_is_err_and c.from_residual-in_err-next_line-2.result c.from_residual-in_err-next_line-2.ensures.1 in
    let two = g.L.LineSource.passed c.next_line.new.self + 1 in
    let left = g.L.LineSource.may_leave c.args.source.now in
    let mid = g.L.LineSource.may_leave c.next_line.new.self in
    let stops = g.L.LineSource.may_stop c.next_line-2.new.self in
    let names : version_of c.line.result.now ≡ Some c.in-Some.version = sym c.in-Some.ensures in
    rw (p.1, p.2)
    (of_part c.in_err-next_line-2.field-0.0 stops stops mid left (line_at two) low_at (λ x h. h)
    (second_line_fails left mid (g.L.LineSource.passed c.args.source.now + 1) (omega (arith, c.requires)) (g.L.LineSource.line c.next_line.new.self) c.in_ok-next_line.ensures.said
    c.in-Some.version (rw (← c.line.ensures) names) two (omega (arith, c.requires, c.in_ok-next_line.ensures.passed))) c.in_err-next_line-2.ensures.err)

pub returns-in_err-low-clause-err : goal.returns-in_err-low-clause-err
returns-in_err-low-clause-err g c =
    let p = err_from_is_err_and c.from_residual-in_err-low.result c.from_residual-in_err-low.ensures.1 in
    let two = g.L.LineSource.passed c.next_line.new.self + 1 in
    let left = g.L.LineSource.may_leave c.args.source.now in
    let mid = g.L.LineSource.may_leave c.next_line.new.self in
    let second = g.L.LineSource.line c.next_line-2.new.self in
    let names : version_of c.line.result.now ≡ Some c.in-Some.version = sym c.in-Some.ensures in
    let h : IsFaultOf ⊥ c.in_err-low.field-0.0 (said_in low_words lows_with allows_low 2 (g.L.LineSource.line c.next_line-2.new.self)) = rw (← c.line-2.ensures) c.in_err-low.ensures in
    rw (p.1, p.2)
    (of_bare_line c.in_err-low.field-0.0 (g.L.LineSource.may_stop c.next_line-2.new.self) left (said_in low_words lows_with allows_low 2 second) low_at
    (word_fails left mid (g.L.LineSource.passed c.args.source.now + 1) (omega (arith, c.requires)) (g.L.LineSource.line c.next_line.new.self) c.in_ok-next_line.ensures.said
    c.in-Some.version (rw (← c.line.ensures) names) two (omega (arith, c.requires, c.in_ok-next_line.ensures.passed)) (g.L.LineSource.may_leave c.next_line-2.new.self) second
    c.in_ok-next_line-2.ensures.said c.in_ok-next_line-2.ensures.has) h)

pub returns-clause-said : goal.returns-clause-said
returns-clause-said g c =
    let names : version_of c.line.result.now ≡ Some c.in-Some.version = sym c.in-Some.ensures in
    let said : said_in low_words lows_with allows_low 2 (g.L.LineSource.line c.next_line-2.new.self) ≡ Ok c.in_ok-low.low = rw (← c.line-2.ensures) c.in_ok-low.ensures in
    low_says (g.L.LineSource.may_leave c.args.source.now) (g.L.LineSource.may_leave c.next_line.new.self) (g.L.LineSource.passed c.args.source.now + 1) (omega (arith, c.requires))
    (g.L.LineSource.line c.next_line.new.self) c.in_ok-next_line.ensures.said c.in-Some.version (rw (← c.line.ensures) names) (g.L.LineSource.passed c.next_line.new.self + 1)
    (omega (arith, c.requires, c.in_ok-next_line.ensures.passed)) (g.L.LineSource.may_leave c.next_line-2.new.self) (g.L.LineSource.line c.next_line-2.new.self)
    c.in_ok-next_line-2.ensures.said c.in_ok-low.low said
