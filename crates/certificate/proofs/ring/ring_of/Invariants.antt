use Rattle.std.proofs.Common.{length}
use Rattle.certificate.proofs.Rings.{IsReadSoFar}
use Rattle.certificate.proofs.ring.ring_of.Given as goal

abbrev pub invariant-words : goal.invariant-words
invariant-words l = IsReadSoFar l.text l.processes.items l.fit l.rest

abbrev pub decreases-words : goal.decreases-words
decreases-words l = length l.rest
