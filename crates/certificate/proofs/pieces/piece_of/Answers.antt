use Rattle.std.proofs.Common.{◌≡◌, ◌+◌, Ok, subst}
use Rattle.std.proofs.lemmas.Result.{err_from_is_err_and}
use Rattle.certificate.specs.Versions.{allows_head}
use Rattle.certificate.specs.Words.{head_words, heads_with, count_of}
use Rattle.certificate.specs.Blocks.{held, MayLeave, Stops}
use Rattle.certificate.specs.Reading.{IsFaultOf, line_at, said_in, text_node}
use Rattle.certificate.specs.RawLines.{PassesLines, steps_in}
use Rattle.certificate.specs.Sources.{OrMemory}
use Rattle.certificate.proofs.Sources.{or_memory, of_part, of_bare_line, line_fails_node, word_fails_node, depth_fails_node}
use Rattle.certificate.proofs.RawNodes.{piece_says, piece_ends_early, must_fail}
use Rattle.certificate.proofs.pieces.piece_of.Goals as goal

pub returns-in_err-next_line-clause-err : goal.returns-in_err-next_line-clause-err
returns-in_err-next_line-clause-err g c =
    let p = err_from_is_err_and c.from_residual.result c.from_residual.ensures.1 in
    let line = c.args.lines.now.block.passed + 1 in
    let left = MayLeave (g.R.Read.remaining c.args.lines.now.reader.now) (held c.args.lines.now.block) in
    let stops = Stops c.next_line.new.self.block.taken in
    rw (p.1, p.2)
    (of_part c.in_err-next_line.field-0.0 stops (OrMemory stops) left left (line_at line) (text_node c.args.version c.args.above line) (or_memory stops) (line_fails_node c.args.version left c.args.above line)
    c.in_err-next_line.ensures.err)

pub returns-in_err-head-clause-err : goal.returns-in_err-head-clause-err
returns-in_err-head-clause-err g c =
    let p = err_from_is_err_and c.from_residual-in_err-head.result c.from_residual-in_err-head.ensures.1 in
    let line = c.args.lines.now.block.passed + 1 in
    let first = c.next_line.new.self.block.line.items in
    let left = MayLeave (g.R.Read.remaining c.args.lines.now.reader.now) (held c.args.lines.now.block) in
    let mid = MayLeave (g.R.Read.remaining c.next_line.new.self.reader.now) (held c.next_line.new.self.block) in
    let stops = Stops c.next_line.new.self.block.taken in
    let h : IsFaultOf ⊥ c.in_err-head.field-0.0 (said_in head_words heads_with (allows_head c.args.version) (c.args.lines.now.block.passed + 1) c.next_line.new.self.block.line.items) =
    rw (← c.number-number.ensures, ← c.line.ensures) c.in_err-head.ensures in
    rw (p.1, p.2)
    (of_bare_line c.in_err-head.field-0.0 stops left (said_in head_words heads_with (allows_head c.args.version) line first) (text_node c.args.version c.args.above line)
    (word_fails_node c.args.version left mid c.args.above line first c.in_ok-next_line.ensures.said c.in_ok-next_line.ensures.has) h)

pub returns-then-above-gt-MOST_BRANCHES_ABOVE-clause-err : goal.returns-then-above-gt-MOST_BRANCHES_ABOVE-clause-err
returns-then-above-gt-MOST_BRANCHES_ABOVE-clause-err g c =
    let said : said_in head_words heads_with (allows_head c.args.version) (c.args.lines.now.block.passed + 1) c.next_line.new.self.block.line.items ≡ Ok c.in_ok-head.head =
    rw (← c.number-number.ensures, ← c.line.ensures) c.in_ok-head.ensures in
    let left = MayLeave (g.R.Read.remaining c.args.lines.now.reader.now) (held c.args.lines.now.block) in
    let mid = MayLeave (g.R.Read.remaining c.next_line.new.self.reader.now) (held c.next_line.new.self.block) in
    rw (c.at.ensures, c.number-number.ensures)
    (depth_fails_node c.args.version left mid c.args.above (c.args.lines.now.block.passed + 1) c.next_line.new.self.block.line.items c.in_ok-next_line.ensures.said c.in_ok-next_line.ensures.has c.in_ok-head.head said
    c.if-above-gt-MOST_BRANCHES_ABOVE.true)

pub returns-in_err-pass_lines-clause-from : goal.returns-in_err-pass_lines-clause-from
returns-in_err-pass_lines-clause-from g c = λ origin is. c.in_err-pass_lines.ensures.from origin (c.in_ok-next_line.ensures.from origin is)

pub returns-then-branch-clause-from : goal.returns-then-branch-clause-from
returns-then-branch-clause-from g c = λ origin is. c.in_ok-pass_lines.ensures.from origin (c.in_ok-next_line.ensures.from origin is)

pub returns-clause-from : goal.returns-clause-from
returns-clause-from g c = λ origin is. c.in_ok-pass_lines.ensures.from origin (c.in_ok-next_line.ensures.from origin is)

pub returns-then-branch-clause-said : goal.returns-then-branch-clause-said
returns-then-branch-clause-said g c =
    let said : said_in head_words heads_with (allows_head c.args.version) (c.args.lines.now.block.passed + 1) c.next_line.new.self.block.line.items ≡ Ok c.in_ok-head.head =
    rw (← c.number-number.ensures, ← c.line.ensures) c.in_ok-head.ensures in
    let left = MayLeave (g.R.Read.remaining c.args.lines.now.reader.now) (held c.args.lines.now.block) in
    let known = g.R.Read.remaining c.next_line.new.self.reader.now in
    let next = g.R.Read.remaining c.pass_lines.new.self.reader.now in
    let lines = rw c.count_of-count.ensures at (subst (PassesLines known next c.next_line.new.self.block c.pass_lines.new.self.block c.pass_lines.new.text.items c.count_of-count.result) c.if-branch.true c.in_ok-pass_lines.ensures.lines) in
    piece_says c.args.version left known next c.next_line.new.self.block c.pass_lines.new.self.block c.args.above (c.args.lines.now.block.passed + 1) c.next_line.new.self.block.line.items c.pass_lines.new.text.items c.in_ok-head.head
    c.in_ok-next_line.ensures.said said c.if-above-gt-MOST_BRANCHES_ABOVE.false lines

pub unreachable-requires : goal.unreachable-requires
unreachable-requires g c =
    let known = g.R.Read.remaining c.next_line.new.self.reader.now in
    let next = g.R.Read.remaining c.pass_lines.new.self.reader.now in
    let lines = subst (PassesLines known next c.next_line.new.self.block c.pass_lines.new.self.block c.pass_lines.new.text.items c.count_of-count.result) c.if-branch.false c.in_ok-pass_lines.ensures.lines in
    must_fail c.args.version known next c.next_line.new.self.block c.pass_lines.new.self.block (c.number-number.result + 1) c.count_of-count.result c.pass_lines.new.text.items c.in-Ok.field-0.items lines (rw c.as_slice.ensures.value at c.in-Ok.ensures)

pub returns-clause-err : goal.returns-clause-err
returns-clause-err g c =
    let said : said_in head_words heads_with (allows_head c.args.version) (c.args.lines.now.block.passed + 1) c.next_line.new.self.block.line.items ≡ Ok c.in_ok-head.head =
    rw (← c.number-number.ensures, ← c.line.ensures) c.in_ok-head.ensures in
    let left = MayLeave (g.R.Read.remaining c.args.lines.now.reader.now) (held c.args.lines.now.block) in
    let known = g.R.Read.remaining c.next_line.new.self.reader.now in
    let next = g.R.Read.remaining c.pass_lines.new.self.reader.now in
    let lines = rw c.count_of-count.ensures at (subst (PassesLines known next c.next_line.new.self.block c.pass_lines.new.self.block c.pass_lines.new.text.items c.count_of-count.result) c.if-branch.false c.in_ok-pass_lines.ensures.lines) in
    let fault : IsFaultOf (Unit {0}) c.in-Err.fault (steps_in c.args.version (count_of c.in_ok-head.head) (c.args.lines.now.block.passed + 1 + 1) c.pass_lines.new.text.items) =
    rw (← c.count_of-count.ensures, ← c.number-number.ensures, ← c.as_slice.ensures.value) c.in-Err.ensures in
    piece_ends_early c.args.version left known next c.next_line.new.self.block c.pass_lines.new.self.block c.args.above (c.args.lines.now.block.passed + 1) c.next_line.new.self.block.line.items c.pass_lines.new.text.items c.in_ok-head.head
    c.in_ok-next_line.ensures.said said c.if-above-gt-MOST_BRANCHES_ABOVE.false lines (Stops c.pass_lines.new.self.block.taken) c.in-Err.fault fault
