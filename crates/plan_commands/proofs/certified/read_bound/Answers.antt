use Rattle.std.proofs.Common.{IfSome, sym, subst}
use Rattle.certificate.specs.Cert.{Cert}
use Rattle.tree_check.specs.Proofs.{Proves}
use Rattle.command_streams.specs.declared.ending.Fault.{Fault}
use Rattle.command_streams.specs.declared.limits.TheConstants.{CERTIFICATE_LIMIT}
use Rattle.command_streams.specs.Endings.{IsNotOfTexts}
use Rattle.plan_commands.specs.Certified.{HasCertificate, IsCertificateFault}
use Rattle.plan_commands.proofs.Accepted.{bound_only, fault_only}
use Rattle.plan_commands.proofs.Streamed.{bound_of_stream, fault_of_stream}
use Rattle.plan_commands.proofs.certified.read_bound.Goals as goal

pub returns-in-Ok-clause-judged : goal.returns-in-Ok-clause-judged
returns-in-Ok-clause-judged g c =
    let remaining = g.R.Read.remaining in
    bound_of_stream c.args.instance.now (remaining c.args.certificate.now) (remaining c.check_stream.new.reader)
    c.in-Ok.low c.in-Ok.ensures.answer c.in-Ok.ensures.taken c.in-Ok.ensures.bound

pub returns-in-Err-clause-judged : goal.returns-in-Err-clause-judged
returns-in-Err-clause-judged g c =
    let remaining = g.R.Read.remaining in
    subst (λ (told : Fault). IfSome (remaining c.args.certificate.now) (λ bytes. IsCertificateFault CERTIFICATE_LIMIT c.args.instance.now bytes told)) (sym c.fault_of.ensures)
    (fault_of_stream c.args.instance.now (remaining c.args.certificate.now) (remaining c.check_stream.new.reader)
    c.in-Err.fault c.in-Err.ensures.answer c.in-Err.ensures.taken)

pub returns-in-Ok-clause-only : goal.returns-in-Ok-clause-only
returns-in-Ok-clause-only g c = bound_only c.args.instance.now (g.R.Read.remaining c.args.certificate.now) c.in-Ok.low c.in-Ok.ensures.only

pub returns-in-Err-clause-only : goal.returns-in-Err-clause-only
returns-in-Err-clause-only g c =
    let known = g.R.Read.remaining c.args.certificate.now in
    subst (λ (told : Fault). IfSome known (λ bytes. (cert : Cert) → HasCertificate CERTIFICATE_LIMIT bytes cert → Proves c.args.instance.now cert → IsNotOfTexts told))
    (sym c.fault_of.ensures)
    (fault_only c.args.instance.now known c.in-Err.fault c.in-Err.ensures.only)
