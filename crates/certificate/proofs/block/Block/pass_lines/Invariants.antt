use Rattle.std.proofs.Common.{◌+◌, ◌-◌}
use Rattle.certificate.specs.Limits.{most_text_bytes}
use Rattle.certificate.specs.Blocks.{IsFrom}
use Rattle.certificate.proofs.RawLines.{AreLinesSoFar}
use Rattle.certificate.proofs.block.Block.pass_lines.Given as goal

abbrev pub invariant-parts : goal.invariant-parts
invariant-parts g l =
    let remaining = g.R.Read.remaining in
    AreLinesSoFar (remaining l.fn.reader) (remaining l.reader) l.fn.self l.self l.text.items l.count l.left (IsFrom (remaining l.fn.reader) l.fn.self.taken) (IsFrom (remaining l.reader) l.self.taken)

abbrev pub decreases-parts : goal.decreases-parts
decreases-parts g l = most_text_bytes + 1 - l.self.taken
