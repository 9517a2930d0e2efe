use Rattle.std.proofs.Common.{refl, arith}
use Rattle.std.proofs.lemmas.List.FromFn.{map-range_with_len_more}
use Rattle.medl_tables.specs.Rows.{rows_of}
use Rattle.medl_tables.proofs.medl.Medl.of.Goals as goal

pub loop-node-preserved : goal.loop-node-preserved
loop-node-preserved c =
    let f = rows_of c.args.instance.now c.args.plan.now in
    let node = c.loop-node.node in
    rw (c.in_ok-push.ensures.items, c.loop-node.invariant, map-range_with_len_more f 0 node node (omega arith), c.in_ok-rows.ensures) refl
