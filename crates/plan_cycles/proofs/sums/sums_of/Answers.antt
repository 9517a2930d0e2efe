use Rattle.std.proofs.Common.{◌≡◌, arith, add-one}
use Rattle.std.proofs.lemmas.Grind.{common_steps}
use Rattle.ttp_model.specs.Instance.{node_at}
use Rattle.plan_cycles.proofs.RoundSums.{sums_more}
use Rattle.plan_cycles.proofs.sums.sums_of.Goals as goal

pub loop-n-preserved : goal.loop-n-preserved
loop-n-preserved c =
    let i = c.args.instance.now in
    let n = c.loop-n.n in
    let caps : c.as_slice-in-loop-n.result.now ≡ (node_at i n).capacities = grind (arith, common_steps) in
    let reached = rw (c.as_slice.ensures.value, caps) at c.in_ok-sums-2.ensures in
    rw add-one (sums_more i n c.loop-n.sums.items c.in_ok-sums-2.sums.items c.loop-n.invariant reached)
