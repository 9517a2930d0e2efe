use Rattle.std.proofs.Common.{arith}
use Rattle.ttp_model.proofs.Totals.{total_next}
use Rattle.tt_choice.specs.Choice.{unordered_below}
use Rattle.tt_choice.specs.Branches.{open_choice}
use Rattle.tt_choice.proofs.choice.pairs_of_one_node.Goals as goal

pub loop-p-preserved : goal.loop-p-preserved
loop-p-preserved c =
    let i = c.args.instance.now in
    let more = total_next (unordered_below i (open_choice i 0)) c.loop-p.p in
    let earlier = c.earlier_on_node-pairs.ensures in
    (omega (arith, more, c.loop-p.invariant.0, earlier.count), omega (arith, c.loop-p.invariant.1, earlier.few))
