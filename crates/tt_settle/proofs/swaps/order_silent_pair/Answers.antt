use Rattle.std.proofs.Common.{◌≡◌, ◌==◌, arith, ap, ◌∙◌}
use Rattle.std.specs.List.{position_or_len}
use Rattle.ttp_model.specs.Moves.{position_of}
use Rattle.ttp_model.proofs.Positions.{position_inside}
use Rattle.tt_settle.proofs.Swapping.{silent_twins_moved}
use Rattle.tt_settle.proofs.swaps.order_silent_pair.Goals as goal

pub swap_nodes-swapped-requires-clause-first : goal.swap_nodes-swapped-requires-clause-first
swap_nodes-swapped-requires-clause-first c =
    let at_u : c.position_of-first.result ≡ position_of c.args.plan c.args.u = c.position_of-first.ensures ∙ ap (position_or_len (λ m. m == c.args.u)) c.as_slice-order.ensures in
    omega (arith, at_u, (position_inside c.args.instance.now c.args.plan c.requires.valid c.args.u (omega (arith, c.requires.in_order, c.requires.inside))).0)

pub swap_nodes-swapped-requires-clause-second : goal.swap_nodes-swapped-requires-clause-second
swap_nodes-swapped-requires-clause-second c =
    let at_v : c.position_of-second.result ≡ position_of c.args.plan c.args.v = c.position_of-second.ensures ∙ ap (position_or_len (λ m. m == c.args.v)) c.as_slice-order.ensures in
    omega (arith, at_v, (position_inside c.args.instance.now c.args.plan c.requires.valid c.args.v c.requires.inside).0)

pub returns : goal.returns
returns c =
    let at_u : c.position_of-first.result ≡ position_of c.args.plan c.args.u = c.position_of-first.ensures ∙ ap (position_or_len (λ m. m == c.args.u)) c.as_slice-order.ensures in
    let at_v : c.position_of-second.result ≡ position_of c.args.plan c.args.v = c.position_of-second.ensures ∙ ap (position_or_len (λ m. m == c.args.v)) c.as_slice-order.ensures in
    silent_twins_moved c.args.instance.now c.args.plan c.swap_nodes-swapped.result c.requires.instance c.requires.valid c.args.u c.args.v c.position_of-first.result c.position_of-second.result c.requires.in_order (c.silent_twins.ensures.0 c.if-not-silent_twins.false) at_u at_v c.if-first-second.false c.swap_nodes-swapped.ensures
