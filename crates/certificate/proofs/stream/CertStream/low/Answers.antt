use Rattle.std.proofs.Common.{◌+◌, ◌++◌, ◌∷◌, [], List, ℕ, ap, ◌∙◌, arith}
use Rattle.certificate.specs.Blocks.{held, MayLeave}
use Rattle.certificate.proofs.StreamLaws.{with_low}
use Rattle.certificate.proofs.stream.CertStream.low.Goals as goal

pub returns-clause-low : goal.returns-clause-low
returns-clause-low g c =
    let remaining = g.R.Read.remaining in
    with_low c.in_ok-version.version (MayLeave (remaining c.args.self.now.lines.reader.now) (held c.args.self.now.lines.block)) (MayLeave (remaining c.low_from.new.source.reader.now) (held c.low_from.new.source.block))
    c.push.new.self.items (c.low_from.new.source.block.passed + 1) c.in_ok-version.low
    (c.in_ok-push.ensures.items ∙ ap (λ (ks : List ℕ). ks ++ 1 ∷ []) c.requires.due) (omega (arith, c.in_ok-version.ensures.passed)) c.in_ok-version.ensures.said
