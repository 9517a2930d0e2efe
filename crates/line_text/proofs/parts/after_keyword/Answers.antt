use Rattle.line_text.proofs.Cuts.{prefix_if}
use Rattle.line_text.proofs.parts.after_keyword.Goals as goal

pub returns-clause-joined : goal.returns-clause-joined
returns-clause-joined c = prefix_if c.args.keyword.now c.args.bytes.now c.strip_prefix.result c.strip_prefix.ensures.cases
