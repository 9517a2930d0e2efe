use Rattle.std.proofs.Common.{take}
use Rattle.sentences.specs.Lists.{AreTold}
use Rattle.certificate_reasons.specs.Closers.{IsNameOf}
use Rattle.certificate_reasons.proofs.rings.names_of.Given as goal

abbrev pub invariant-loop-p : goal.invariant-loop-p
invariant-loop-p l = AreTold (IsNameOf l.instance) (take l.p-index l.processes) l.names.items
