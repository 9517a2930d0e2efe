use Rattle.std.proofs.Common.{Err, arith, subst}
use Rattle.certificate.specs.Cert.{Cert}
use Rattle.tree_check.specs.Faults.{IsJudged}
use Rattle.certificate_reasons.proofs.LineCounts.{lines_few}
use Rattle.certificate_reasons.proofs.certs.cert_reason.Goals as goal

pub no_proof-requires-clause-judged : goal.no_proof-requires-clause-judged
no_proof-requires-clause-judged c =
    subst (λ (cert : Cert). IsJudged c.args.instance.now cert (Err c.args.fault)) (c.in_ok-cert.ensures.only c.requires.judged.0 c.requires.judged.1)
    c.requires.judged.2

pub no_proof-requires-clause-few : goal.no_proof-requires-clause-few
no_proof-requires-clause-few c = omega (arith, lines_few c.args.certificate.now c.in_ok-cert.cert c.in_ok-cert.ensures.spelled)

pub returns : goal.returns
returns c = record {
  cert = c.in_ok-cert.cert;
  spelled = c.in_ok-cert.ensures.spelled;
  line_is = rw c.line_of.ensures at c.cert_line.ensures;
  why_is = c.in_ok-why.ensures;
}
