use Rattle.plan_cycles.proofs.RoundSums.{reached_more}
use Rattle.plan_cycles.proofs.sums.with_node.Goals as goal

pub loop-bytes-preserved : goal.loop-bytes-preserved
loop-bytes-preserved c =
    rw c.in_ok-push.ensures.items (reached_more c.args.before.now c.args.capacities.now c.loop-bytes.bytes c.loop-bytes.sums.items c.is_reached.result
    c.loop-bytes.invariant c.is_reached.ensures)
