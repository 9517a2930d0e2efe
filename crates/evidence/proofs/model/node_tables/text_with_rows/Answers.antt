use Rattle.evidence.proofs.Told.{text_has}
use Rattle.evidence.proofs.model.node_tables.text_with_rows.Goals as goal

pub returns : goal.returns
returns c = λ node row inside there. rw c.in_ok-text.ensures (text_has c.args.instance.now c.args.medl.now node row inside there)
