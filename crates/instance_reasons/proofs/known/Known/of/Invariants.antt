use Rattle.std.proofs.Common.{map}
use Rattle.instance_text.proofs.IndexLaws.{HasFrom}
use Rattle.instance_reasons.proofs.known.Known.of.Given as goal

abbrev pub invariant-loop-index : goal.invariant-loop-index
invariant-loop-index l = HasFrom l.places l.index (map (λ s. s.now) l.names)
