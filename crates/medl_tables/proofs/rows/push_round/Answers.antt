use Rattle.std.proofs.Common.{◌∷◌, [], map, append_assoc, arith}
use Rattle.std.specs.List.{range_with_len}
use Rattle.std.proofs.lemmas.List.FromFn.{map-range_with_len_more}
use Rattle.medl_tables.specs.Rows.{row_of}
use Rattle.medl_tables.proofs.rows.push_round.Goals as goal

pub loop-k-preserved : goal.loop-k-preserved
loop-k-preserved c =
    let f = row_of c.args.instance.now c.args.plan.now c.args.node c.args.round in
    let k = c.loop-k.k in
    rw (c.in_ok-push.ensures.items, c.in_ok-row_of.ensures, c.loop-k.invariant, map-range_with_len_more f 0 k k (omega arith)) (append_assoc c.args.rows.now.items (map f (range_with_len 0 k)) (f k ∷ []))
