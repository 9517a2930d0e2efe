use Rattle.std.proofs.Common.{arith}
use Rattle.ttp_model.proofs.Totals.{total_next}
use Rattle.tt_choice.specs.Sizes.{range_size}
use Rattle.tt_choice.proofs.choice.Choice.range_sizes.Goals as goal

pub loop-m-preserved : goal.loop-m-preserved
loop-m-preserved c =
    let more = total_next (range_size c.args.self.now) c.loop-m.m in
    let size = rw (c.hi.ensures, c.lo.ensures) at c.binary_digits-sizes.ensures.value in
    (omega (arith, more, c.loop-m.invariant.0, size), omega (arith, c.loop-m.invariant.1, c.binary_digits-sizes.ensures.few))
