use Rattle.std.proofs.Common.{◌≡◌, refl, subst, ◌∙◌}
use Rattle.certificate.specs.Blocks.{IsFrom, PassesPart}
use Rattle.certificate.proofs.Blocks.{part_begin, part_more, line_whole, line_open}
use Rattle.certificate.proofs.block.Block.pass_line.Goals as goal

pub parts-preserved : goal.parts-preserved
parts-preserved g c =
    let remaining = g.R.Read.remaining in
    let part = subst (PassesPart c.parts.self c.pass_part.new.self) c.if-not-branch.true c.in_ok-pass_part.ensures.part in
    let same : c.refill.new.self.line.items ≡ c.pass_part.new.self.line.items = rw c.in_ok-refill.ensures.line refl in
    part_more (remaining c.args.reader.now) (remaining c.parts.reader) c.args.self.now c.parts.self (IsFrom (remaining c.args.reader.now) c.args.self.now.taken)
    (IsFrom (remaining c.parts.reader) c.parts.self.taken) c.parts.invariant c.pass_part.new.self part (remaining c.refill.new.reader) c.refill.new.self c.in_ok-refill.ensures.bytes same
    (IsFrom (remaining c.refill.new.reader) c.refill.new.self.taken)
    (c.in_ok-refill.ensures.passed ∙ c.in_ok-pass_part.ensures.open c.if-not-branch.true ∙ c.parts.invariant.passed)
    (λ all from. c.in_ok-refill.ensures.from all (rw c.in_ok-pass_part.ensures.taken from))

pub parts-init : goal.parts-init
parts-init g c = part_begin (g.R.Read.remaining c.args.reader.now) c.args.self.now _ (IsFrom (g.R.Read.remaining c.args.reader.now) c.args.self.now.taken) refl c.clear.ensures.items refl

pub returns-clause-line : goal.returns-clause-line
returns-clause-line g c =
    let remaining = g.R.Read.remaining in
    line_whole (remaining c.args.reader.now) (remaining c.parts.reader) c.args.self.now c.parts.self (IsFrom (remaining c.args.reader.now) c.args.self.now.taken)
    (IsFrom (remaining c.parts.reader) c.parts.self.taken) c.parts.invariant c.pass_part.new.self (subst (PassesPart c.parts.self c.pass_part.new.self) c.if-not-branch.false c.in_ok-pass_part.ensures.part)

pub returns-then-not-branch-2-clause-line : goal.returns-then-not-branch-2-clause-line
returns-then-not-branch-2-clause-line g c =
    let remaining = g.R.Read.remaining in
    let part = subst (PassesPart c.parts.self c.pass_part.new.self) c.if-not-branch.true c.in_ok-pass_part.ensures.part in
    let same : c.refill.new.self.line.items ≡ c.pass_part.new.self.line.items = rw c.in_ok-refill.ensures.line refl in
    line_open (remaining c.args.reader.now) (remaining c.parts.reader) c.args.self.now c.parts.self (IsFrom (remaining c.args.reader.now) c.args.self.now.taken)
    (IsFrom (remaining c.parts.reader) c.parts.self.taken) c.parts.invariant c.pass_part.new.self part (remaining c.refill.new.reader) c.refill.new.self c.in_ok-refill.ensures.bytes same
    (c.in_ok-refill.ensures.none c.if-not-branch-2.true) (c.in_ok-refill.ensures.end c.if-not-branch-2.true)
