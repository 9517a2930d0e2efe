use Rattle.std.proofs.Common.{◌≡◌, ◌<◌, ◌∙◌, arith}
use Rattle.certificate.specs.Blocks.{IsFrom}
use Rattle.certificate.proofs.RawLines.{lines_whole, lines_go_on, lines_end_early}
use Rattle.certificate.proofs.block.Block.pass_lines.Goals as goal

pub returns-then-left-eq0-clause-lines : goal.returns-then-left-eq0-clause-lines
returns-then-left-eq0-clause-lines g c =
    let remaining = g.R.Read.remaining in
    let done : c.in_ok-left.field-0 ≡ c.parts.left = omega (arith, c.in_ok-left.ensures.few) in
    lines_whole (remaining c.args.reader.now) (remaining c.parts.reader) c.args.self.now c.parts.self c.parts.text.items c.args.count c.parts.left (IsFrom (remaining c.args.reader.now) c.args.self.now.taken)
    (IsFrom (remaining c.parts.reader) c.parts.self.taken) c.parts.invariant c.pass_some.new.self c.pass_some.new.text.items c.in_ok-left.field-0 c.in_ok-left.ensures.some done

pub returns-then-not-branch-clause-lines : goal.returns-then-not-branch-clause-lines
returns-then-not-branch-clause-lines g c =
    let remaining = g.R.Read.remaining in
    let more : c.in_ok-left.field-0 < c.parts.left = omega (arith, c.in_ok-left.ensures.few) in
    lines_end_early (remaining c.args.reader.now) (remaining c.parts.reader) c.args.self.now c.parts.self c.parts.text.items c.args.count c.parts.left (IsFrom (remaining c.args.reader.now) c.args.self.now.taken)
    (IsFrom (remaining c.parts.reader) c.parts.self.taken) c.parts.invariant c.pass_some.new.self c.pass_some.new.text.items c.in_ok-left.field-0 c.in_ok-left.ensures.some more (remaining c.refill.new.reader) c.refill.new.self
    c.in_ok-refill.ensures.bytes (c.in_ok-refill.ensures.none c.if-not-branch.true) (c.in_ok-refill.ensures.end c.if-not-branch.true)

pub parts-preserved : goal.parts-preserved
parts-preserved g c =
    let remaining = g.R.Read.remaining in
    let more : c.in_ok-left.field-0 < c.parts.left = omega (arith, c.in_ok-left.ensures.few) in
    lines_go_on (remaining c.args.reader.now) (remaining c.parts.reader) c.args.self.now c.parts.self c.parts.text.items c.args.count c.parts.left (IsFrom (remaining c.args.reader.now) c.args.self.now.taken)
    (IsFrom (remaining c.parts.reader) c.parts.self.taken) c.parts.invariant c.pass_some.new.self c.pass_some.new.text.items c.in_ok-left.field-0 c.in_ok-left.ensures.some more (remaining c.refill.new.reader) c.refill.new.self
    c.in_ok-refill.ensures.bytes (IsFrom (remaining c.refill.new.reader) c.refill.new.self.taken) (c.in_ok-refill.ensures.passed ∙ c.in_ok-left.ensures.passed) (λ all from. c.in_ok-refill.ensures.from all (rw c.in_ok-left.ensures.taken from))
