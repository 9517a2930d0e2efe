use Rattle.std.proofs.Common.{◌+◌, subst}
use Rattle.certificate.specs.Blocks.{held, PassesLine}
use Rattle.certificate.proofs.Blocks.{has_text, line_says, line_ends_early}
use Rattle.certificate.proofs.reader_lines.ReaderLinesLineSource.next_line.Goals as goal

pub returns-then-branch-clause-said : goal.returns-then-branch-clause-said
returns-then-branch-clause-said g c =
    let known = g.R.Read.remaining c.args.self.now.reader.now in
    let next = g.R.Read.remaining c.pass_line.new.reader in
    line_says known next c.args.self.now.block c.pass_line.new.self (c.args.self.now.block.passed + 1)
    (subst (PassesLine known next c.args.self.now.block c.pass_line.new.self) c.if-branch.true c.in_ok-pass_line.ensures.line)

pub returns-then-branch-clause-has : goal.returns-then-branch-clause-has
returns-then-branch-clause-has g c = has_text (g.R.Read.remaining c.pass_line.new.reader) (held c.pass_line.new.self)

pub returns-else-branch-clause-err : goal.returns-else-branch-clause-err
returns-else-branch-clause-err g c =
    let known = g.R.Read.remaining c.args.self.now.reader.now in
    let next = g.R.Read.remaining c.pass_line.new.reader in
    rw (c.at.ensures, c.number-number.ensures)
    (line_ends_early known next c.args.self.now.block c.pass_line.new.self (c.args.self.now.block.passed + 1)
    (subst (PassesLine known next c.args.self.now.block c.pass_line.new.self) c.if-branch.false c.in_ok-pass_line.ensures.line))
