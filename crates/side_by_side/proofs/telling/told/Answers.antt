use Rattle.std.proofs.Common.{◌∙◌, List, ap, subst}
use Rattle.certificate.specs.Lines.{line_of}
use Rattle.certificate.specs.declared.node.Node.{Node}
use Rattle.tree_check.specs.Faults.{told_line}
use Rattle.side_by_side.specs.Faults.{TellsOwn}
use Rattle.side_by_side.proofs.ToldLines.{told_there}
use Rattle.side_by_side.proofs.telling.told.Goals as goal

pub returns-in-At : goal.returns-in-At
returns-in-At c = λ i ch tells.
    let certs = c.args.certs.now in
    let one = c.index-certs-certificate.result in
    told_there i certs c.args.certificate c.args.place ch one c.in-At.line c.line_at.result c.saturating_add.result c.in-At.fault c.index-certs-certificate.is
    (c.line_at.ensures ∙ ap (λ (ns : List Node). told_line (line_of ns c.args.place)) c.nodes.ensures.nodes) c.saturating_add.ensures
    (subst (TellsOwn i certs c.args.certificate c.args.place ch) c.in-At.is tells)
