use Rattle.std.proofs.Common.{refl}
use Rattle.evidence.proofs.FirstFault.{first_fault}
use Rattle.evidence.proofs.model.texts.unknown_key.Goals as goal

pub returns : goal.returns
returns c = λ d ms document. first_fault _ _ _ document refl _ c.read.ensures.ok c.read.ensures.err
