use Rattle.std.proofs.Common.{◌++◌, ◌≤◌, List, ℕ, length, take, slice_range, ap, ◌∙◌, arith}
use Rattle.certificate.proofs.Blocks.{length-held}
use Rattle.certificate.proofs.RawLines.{some_of}
use Rattle.certificate.proofs.block.Block.pass_some.Goals as goal

pub returns-clause-some : goal.returns-clause-some
returns-clause-some c =
    let xs = c.args.self.now.bytes.items in
    let at = c.args.self.now.at in
    let end = c.args.self.now.end in
    let size = c.lines_in-size.result.0 in
    let within = rw c.as_slice.ensures.value at c.lines_in-size.ensures.within in
    let begun = rw c.as_slice.ensures.value at c.lines_in-size.ensures.begun in
    let fits : end ≤ length xs = omega (arith, c.args.self.now.in_bounds, c.args.self.now.bytes.ok.0) in
    let long = length-held xs at end c.args.self.now.ordered fits in
    record {
      part = take size (slice_range xs at end);
      joined = some_of xs at end size within;
      added = c.in_ok-extend_from_slice.ensures.items ∙ ap (λ (t : List ℕ). c.args.text.now.items ++ t) (rw c.as_slice.ensures.value at c.split_at.ensures.front);
      whole = rw c.as_slice.ensures.value at c.lines_in-size.ensures.whole;
      begun = λ lt. ((begun lt).1, omega (arith, (begun lt).0, long, c.args.self.now.ordered));
    }
