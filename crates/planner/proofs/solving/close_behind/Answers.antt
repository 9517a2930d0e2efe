use Rattle.std.proofs.Common.{◌∙◌}
use Rattle.planner.proofs.solving.close_behind.Goals as goal

pub returns : goal.returns
returns c = record { closed = c.in_ok-closed.closed.items; are = c.in_ok-closed.ensures; joined = c.shrink_to_fit.ensures.items ∙ c.in_ok-join.ensures }
