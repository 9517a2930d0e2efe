use Rattle.std.proofs.Common.{◌-◌, arith}
use Rattle.certificate.proofs.Runs.{rest_lines, rest_begins}
use Rattle.certificate.proofs.many_lines.lines_in.Goals as goal

pub returns-clause-whole : goal.returns-clause-whole
returns-clause-whole c = λ is.
    let before = c.runs_before-before in
    let found = c.lines_by_bytes-size in
    let lines = rw c.split_at.ensures.back at (found.ensures.whole (omega (arith, is))) in
    rest_lines before.result.1 (c.args.count - before.result.1) c.args.count before.result.0 found.result.0 c.args.held.now (omega (arith, before.ensures.left)) (omega (arith, before.ensures.left)) before.ensures.begun lines

pub returns-clause-begun : goal.returns-clause-begun
returns-clause-begun c = λ few.
    let before = c.runs_before-before in
    let found = c.lines_by_bytes-size in
    let begun = found.ensures.begun (omega (arith, few)) in
    (omega (arith, begun.0, c.split_at.ensures.back_len), rest_begins before.result.1 found.result.1 before.result.0 found.result.0 c.args.held.now before.ensures.begun (rw c.split_at.ensures.back at begun.1))
