use Rattle.std.proofs.Common.{◌<◌, arith, ap, slice_index}
use Rattle.ttp_model.specs.Plans.{start_of}
use Rattle.tt_settle.proofs.Swapping.{twins_moved}
use Rattle.tt_settle.proofs.swaps.order_pair.Goals as goal

pub returns : goal.returns
returns c =
    let later : start_of c.args.plan c.args.q < start_of c.args.plan c.args.p = omega (arith, c.if-starts-p.false, ap (λ xs. slice_index xs c.args.p) c.as_slice-starts.ensures, ap (λ xs. slice_index xs c.args.q) c.as_slice-starts.ensures) in
    twins_moved c.args.instance.now c.args.plan c.swap_starts.result c.requires.instance c.requires.valid c.args.p c.args.q c.requires.in_order (c.twins.ensures.0 c.if-not-twins.false) later c.swap_starts.ensures
