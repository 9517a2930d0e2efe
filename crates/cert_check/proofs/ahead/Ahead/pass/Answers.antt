use Rattle.std.proofs.Common.{sym, subst}
use Rattle.certificate.specs.Streams.{bytes_taken}
use Rattle.cert_check.specs.declared.ahead.Ahead.{Ahead}
use Rattle.cert_check.specs.declared.ahead.Ahead.TheVariants.{Fault}
use Rattle.cert_check.specs.declared.fault.StreamFault.{StreamFault}
use Rattle.cert_check.specs.UnderWay.{IsAhead, LeavesRest}
use Rattle.cert_check.proofs.Failing.{wrong_rest}
use Rattle.cert_check.proofs.ahead.Ahead.pass.Goals as goal

pub returns-in-Cert-clause-rest : goal.returns-in-Cert-clause-rest
returns-in-Cert-clause-rest g c = λ i at w left ahead.
    let remaining = g.R.Read.remaining in
    let now = c.args.stream.now in
    let taken = bytes_taken c.pass_nodes-in-Cert.new.stream in
    let result = c.pass_nodes-in-Cert.result in
    let e = c.pass_nodes-in-Cert.ensures in
    let at_fault = subst (IsAhead i remaining at now w left) c.in-Fault.is ahead in
    let wrong = subst (λ (f : StreamFault). IsAhead i remaining at now w left (Fault f)) c.in-Cert.is at_fault in
    let rest = wrong_rest i remaining at now w left taken c.in-Cert.field-0 result wrong e.rest e.err in
    let of_fault = subst (λ (f : StreamFault). LeavesRest i remaining at left (Fault f) taken result) (sym c.in-Cert.is) rest in
    subst (λ (a : Ahead). LeavesRest i remaining at left a taken result) (sym c.in-Fault.is) of_fault
