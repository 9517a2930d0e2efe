use Rattle.std.proofs.Common.{arith}
use Rattle.tt_layout.proofs.Bounds.{product_bound}
use Rattle.tt_layout.proofs.layout.Layout.slot_start.Goals as goal

pub overflow_mul-result : goal.overflow_mul-result
overflow_mul-result c =
    let b = product_bound c.args.r c.self.inside.round (omega arith) c.self.invariant.1.bound in
    rw c.from.ensures (omega (arith, b))

pub overflow_add-result : goal.overflow_add-result
overflow_add-result c =
    let b = product_bound c.args.r c.self.inside.round (omega arith) c.self.invariant.1.bound in
    rw c.from.ensures (omega (arith, b, c.slots_before.ensures.bound))
