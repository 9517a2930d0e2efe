use Rattle.std.proofs.Common.{◌+◌, ◌-◌}
use Rattle.certificate.specs.Limits.{most_text_bytes}
use Rattle.certificate.specs.Blocks.{IsFrom}
use Rattle.certificate.proofs.Blocks.{IsPassedSoFar}
use Rattle.certificate.proofs.block.Block.pass_line.Given as goal

abbrev pub invariant-parts : goal.invariant-parts
invariant-parts g l =
    let remaining = g.R.Read.remaining in
    IsPassedSoFar (remaining l.fn.reader) (remaining l.reader) l.fn.self l.self (IsFrom (remaining l.fn.reader) l.fn.self.taken) (IsFrom (remaining l.reader) l.self.taken)

abbrev pub decreases-parts : goal.decreases-parts
decreases-parts g l = most_text_bytes + 1 - l.self.taken
