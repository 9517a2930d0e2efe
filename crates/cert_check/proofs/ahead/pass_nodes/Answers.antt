use Rattle.std.proofs.lemmas.Result.{err_from_is_err_and}
use Rattle.certificate.specs.Streams.{bytes_taken}
use Rattle.cert_check.proofs.Streams.{passed_more, passed_all, passed_fault}
use Rattle.cert_check.proofs.ahead.pass_nodes.Goals as goal

pub returns-in_err-_passed-clause-err : goal.returns-in_err-_passed-clause-err
returns-in_err-_passed-clause-err g c =
    let p = err_from_is_err_and c.from_residual.result c.from_residual.ensures.1 in
    rw (p.1, p.2)
    (passed_fault g.R.Read.remaining c.args.stream.now c.rest.stream (bytes_taken c.next_node.new.self)
    c.in_err-_passed.field-0.0 c.rest.invariant c.in_err-_passed.ensures.err)

pub returns-in_err-_passed-clause-from : goal.returns-in_err-_passed-clause-from
returns-in_err-_passed-clause-from g c = λ origin is. c.in_err-_passed.ensures.from origin (c.rest.invariant.from origin is)

pub rest-preserved-in-Some : goal.rest-preserved-in-Some
rest-preserved-in-Some g c =
    passed_more g.R.Read.remaining c.args.stream.now c.rest.stream c.next_node.new.self c.in-Some._passed
    (rw c.in-Some.is at c.in_ok-_passed.ensures.next) c.rest.invariant c.in_ok-_passed.ensures.from

pub rest-preserved : goal.rest-preserved
rest-preserved g c =
    passed_more g.R.Read.remaining c.args.stream.now c.rest.stream c.next_node.new.self c.in-Some._passed
    (rw c.in-Some.is at c.in_ok-_passed.ensures.next) c.rest.invariant c.in_ok-_passed.ensures.from

pub returns-clause-rest : goal.returns-clause-rest
returns-clause-rest g c = passed_all g.R.Read.remaining c.args.stream.now c.rest.stream c.rest.invariant (rw c.in_default.is at c.in_ok-_passed.ensures.next)

pub returns-clause-from : goal.returns-clause-from
returns-clause-from g c = λ origin is. c.in_ok-_passed.ensures.from origin (c.rest.invariant.from origin is)
