use Rattle.std.proofs.Common.{◌+◌, ◌-◌, List, ℕ, Option}
use Rattle.certificate.specs.Limits.{most_text_bytes}
use Rattle.certificate.specs.Blocks.{IsFrom}
use Rattle.certificate.proofs.block.Block.read_on.Given as goal

abbrev pub invariant-reads : goal.invariant-reads
invariant-reads g l =
    let remaining = g.R.Read.remaining in
    (all : Option (List ℕ)) → IsFrom (remaining l.fn.reader) l.fn.self.taken all → IsFrom (remaining l.reader) l.self.taken all

abbrev pub decreases-reads : goal.decreases-reads
decreases-reads g l = most_text_bytes + 1 - l.self.taken
