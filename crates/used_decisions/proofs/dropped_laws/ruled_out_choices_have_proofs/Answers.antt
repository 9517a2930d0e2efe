use Rattle.used_decisions.proofs.DroppedTrees.{proof_of}
use Rattle.used_decisions.proofs.dropped_laws.ruled_out_choices_have_proofs.Goals as goal

pub returns : goal.returns
returns c = λ i low ms w ruled are places. proof_of i low w ms ruled are places
