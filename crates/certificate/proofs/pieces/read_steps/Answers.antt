use Rattle.certificate.proofs.RawNodes.{read_said}
use Rattle.certificate.proofs.pieces.read_steps.Goals as goal

pub returns-in-Ok : goal.returns-in-Ok
returns-in-Ok c =
    read_said c.args.version c.args.text.now c.behind-lines.result.rest.now c.steps_of.new.source.rest.now c.args.count c.args.line c.behind-lines.result.passed c.in-Ok.steps.items
    c.behind-lines.ensures.rest c.behind-lines.ensures.passed c.in-Ok.ensures.said
