use Rattle.std.proofs.Common.{Ok, subst, ◌∙◌}
use Rattle.std.proofs.lemmas.Result.{err_from_is_err_and}
use Rattle.certificate.specs.Streams.{bytes_taken, still_to_come}
use Rattle.cert_check.specs.declared.ahead.Ahead.{Ahead}
use Rattle.cert_check.specs.UnderWay.{IsAhead, LeavesRest}
use Rattle.cert_check.proofs.Failing.{fault_ends, fits_ends, proof_ends}
use Rattle.cert_check.proofs.NextNodes.{nothing_left, none_due}
use Rattle.cert_check.proofs.ahead.Ahead.end.Goals as goal

pub returns-in_err-pass-clause-answers : goal.returns-in_err-pass-clause-answers
returns-in_err-pass-clause-answers g c = λ i low first w hs stands closed.
    let p = err_from_is_err_and c.from_residual.result c.from_residual.ensures.1 in
    let rest = c.in_err-pass.ensures.rest i stands.at w stands.left stands.is_ahead in
    rw (p.1, p.2) (fault_ends i low g.R.Read.remaining first stands.at stands.left hs stands.under_way (bytes_taken c.pass.new.stream)
    closed c.in_err-pass.field-0.0 rest)

pub returns-in-Fault-clause-answers : goal.returns-in-Fault-clause-answers
returns-in-Fault-clause-answers g c = λ i low first w hs stands closed.
    let remaining = g.R.Read.remaining in
    let taken = bytes_taken c.pass.new.stream in
    let all = c.in_ok-pass.ensures.rest i stands.at w stands.left stands.is_ahead in
    let rest = subst (λ (a : Ahead). LeavesRest i remaining stands.at stands.left a taken (Ok tt)) c.in-Fault.is all in
    fits_ends i low remaining first stands.at stands.left hs stands.under_way taken closed c.in-Fault.fault rest.0 rest.1.0 rest.1.1

pub returns-in-End-clause-answers : goal.returns-in-End-clause-answers
returns-in-End-clause-answers g c = λ i low first w hs stands closed.
    let remaining = g.R.Read.remaining in
    let ends = subst (IsAhead i remaining stands.at c.args.stream.now w stands.left) c.in-End.is stands.is_ahead in
    let none = nothing_left stands.left (stands.under_way.count ∙ none_due (still_to_come stands.at) ends.1) in
    proof_ends i low remaining first stands.at stands.left hs stands.under_way (bytes_taken c.pass.new.stream) closed ends.0 none
