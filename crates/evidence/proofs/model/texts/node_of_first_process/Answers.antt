use Rattle.evidence.proofs.Named.{node_named}
use Rattle.evidence.proofs.model.texts.node_of_first_process.Goals as goal

pub returns : goal.returns
returns c =
    λ table tables process others name document reads first states. node_named c.args.bytes.now table tables process others name _ document reads
    first states c.read.ensures.ok
