use Rattle.std.proofs.Common.{Err, inr, refl, subst}
use Rattle.certificate.specs.Cert.{Cert}
use Rattle.command_streams.proofs.Outcomes.{keeps}
use Rattle.solve_command.specs.Telling.{IsCertifying}
use Rattle.solve_command.proofs.solve.tell_certified.Goals as goal

pub returns-in-Err-write_certificate : goal.returns-in-Err-write_certificate
returns-in-Err-write_certificate g c =
    let part = subst (λ (cert : Cert). IsCertifying cert (g.C.Write.contents c.args.certificate.now)
    (g.C.Write.contents c.write_certificate.new.out) (Err c.in-Err-write_certificate.fault)) c.cert_of.ensures c.in-Err-write_certificate.ensures in
    rw c.in-Ok.is (inr (c.in-Err-write_certificate.fault, refl, part, refl, keeps _))
