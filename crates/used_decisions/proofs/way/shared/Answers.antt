use Rattle.std.proofs.Common.{◌≡◌, get_or, arith, rules}
use Rattle.used_decisions.proofs.Ways.{same_one_more}
use Rattle.used_decisions.proofs.way.shared.Goals as goal

pub loop-k-preserved : goal.loop-k-preserved
loop-k-preserved c =
    let one = c.index-taken-k.result in
    let k = c.loop-k.k in
    let same : one.decision ≡ get_or c.args.decisions.now k one.decision = search rules in
    same_one_more c.args.taken.now c.args.decisions.now k one (omega (arith, c.loop-k-test.true, c.min-count.ensures))
    (omega (arith, c.loop-k-test.true, c.min-count.ensures)) c.index-taken-k.is same c.loop-k.invariant
