use Rattle.std.proofs.Common.{◌≡◌, ◌+◌, refl, arith}
use Rattle.std.proofs.lemmas.Result.{err_from_is_err_and}
use Rattle.certificate.specs.Trees.{trees_of}
use Rattle.certificate.proofs.StreamLaws.{cert_reads, cert_fault}
use Rattle.certificate.proofs.WholeText.{takes}
use Rattle.certificate.proofs.reading.cert_of.Goals as goal

pub returns-in_err-nodes-clause-fault : goal.returns-in_err-nodes-clause-fault
returns-in_err-nodes-clause-fault c =
    let p = err_from_is_err_and c.from_residual-in_err-nodes.result c.from_residual-in_err-nodes.ensures.1 in
    rw (p.1, p.2)
    (cert_fault c.in_ok-version.version c.in_err-nodes.field-0.0 c.args.text.now c.new-source.result.rest.now (λ t. t ≡ c.low_from.new.source.rest.now) (c.low_from.new.source.passed + 1) c.in_ok-version.low
    c.new-source.ensures.rest (omega (arith, c.in_ok-version.ensures.passed)) c.in_ok-version.ensures.said (c.low_from.new.source.rest.now, refl) c.in_err-nodes.ensures.err)

pub new-requires : goal.new-requires
new-requires c =
    let read = cert_reads c.in_ok-version.version c.args.text.now c.new-source.result.rest.now (λ t. t ≡ c.low_from.new.source.rest.now) (c.low_from.new.source.passed + 1) c.in_ok-version.low c.in_ok-nodes.nodes.items
    c.new-source.ensures.rest (omega (arith, c.in_ok-version.ensures.passed)) c.in_ok-version.ensures.said c.in_ok-nodes.ensures.nodes in
    (takes c.args.text.now (record { version = c.in_ok-version.version; low = c.in_ok-version.low; tree = trees_of c.in_ok-nodes.nodes.items }) read).value.tree

pub returns-clause-cert : goal.returns-clause-cert
returns-clause-cert c =
    rw c.new.ensures
    (cert_reads c.in_ok-version.version c.args.text.now c.new-source.result.rest.now (λ t. t ≡ c.low_from.new.source.rest.now) (c.low_from.new.source.passed + 1) c.in_ok-version.low c.in_ok-nodes.nodes.items
    c.new-source.ensures.rest (omega (arith, c.in_ok-version.ensures.passed)) c.in_ok-version.ensures.said c.in_ok-nodes.ensures.nodes)
