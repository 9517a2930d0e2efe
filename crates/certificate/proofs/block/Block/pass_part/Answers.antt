use Rattle.std.proofs.Common.{◌+◌, ◌≤◌, arith}
use Rattle.certificate.proofs.Blocks.{part_of, line_fits}
use Rattle.certificate.proofs.block.Block.pass_part.Goals as goal

pub returns-in-Some-clause-part : goal.returns-in-Some-clause-part
returns-in-Some-clause-part c =
    part_of c.args.self.now.bytes.items c.args.self.now.at c.args.self.now.end c.args.self.now.line.items c.add_part.new.line.items c.in-Some.count
    (rw (c.in-Some.is, c.as_slice.ensures.value) at c.in_ok-count.ensures.some)

-- a line that was found ends within what is held
fits_in : (c : goal.In-Some) → c.args.self.now.at + c.in-Some.count + 1 ≤ c.args.self.now.end
fits_in c =
    let h = rw (c.in-Some.is, c.as_slice.ensures.value) at c.in_ok-count.ensures.some in
    line_fits c.args.self.now.bytes.items c.args.self.now.at c.args.self.now.end c.in-Some.count h.0 h.1 h.2.0 h.2.1.0

pub overflow_add-self-in-Some : goal.overflow_add-self-in-Some
overflow_add-self-in-Some c = omega (arith, fits_in c)

pub overflow_add-self : goal.overflow_add-self
overflow_add-self c = omega (arith, fits_in c)

pub invariant_of-self-in-Some : goal.invariant_of-self-in-Some
invariant_of-self-in-Some c = record { ordered = fits_in c; in_bounds = c.args.self.now.in_bounds; within = c.args.self.now.within; counted = omega (arith, fits_in c, c.args.self.now.counted) }
