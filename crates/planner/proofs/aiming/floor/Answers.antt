use Rattle.std.proofs.Common.{arith}
use Rattle.planner.proofs.aiming.floor.Goals as goal

pub returns : goal.returns
returns c = λ bound path.
    let is = c.in_ok-piece.ensures in
    omega (arith, c.lowered.ensures is.leaf is.node, is.least bound path, c.past_horizon-top.ensures.value)
