use Rattle.std.proofs.Common.{◌≤◌, arith}
use Rattle.tree_check.proofs.leaf.judge_leaf.Goals as goal

pub returns-clause-err : goal.returns-clause-err
returns-clause-err c =
    let low : c.args.low ≤ c.args.goal = omega (arith, c.if-goal-low.false) in
    rw c.in_ok-facts.ensures at (c.in-Err.ensures.err c.args.low) low
