use Rattle.std.proofs.Common.{◌+◌}
use Rattle.certificate.specs.Blocks.{held}
use Rattle.certificate.proofs.Blocks.{nothing_held, held_goes_on, reader_goes_on}
use Rattle.certificate.proofs.reader_lines.ReaderLinesLineSource.end.Goals as goal

pub returns-then-not-is_empty-clause-err : goal.returns-then-not-is_empty-clause-err
returns-then-not-is_empty-clause-err g c =
    rw (c.at.ensures, c.number-number.ensures)
    (held_goes_on (g.R.Read.remaining c.args.self.now.reader.now) (held c.args.self.now.block) (c.args.self.now.block.passed + 1) (c.is_empty.ensures.some c.if-not-is_empty.true))

pub returns-then-more-clause-err : goal.returns-then-more-clause-err
returns-then-more-clause-err g c =
    let none = nothing_held c.args.self.now.block.bytes.items c.args.self.now.block.at c.args.self.now.block.end (c.is_empty.ensures.empty c.if-not-is_empty.false) in
    rw (c.at-then-more.ensures, c.number-number.ensures)
    (reader_goes_on (g.R.Read.remaining c.args.self.now.reader.now) (g.R.Read.remaining c.refill.new.reader) (held c.args.self.now.block) (held c.refill.new.self)
    (c.args.self.now.block.passed + 1) none c.in_ok-more.ensures.bytes (c.in_ok-more.ensures.some c.if-more.true))
