use Rattle.std.proofs.Common.{◌∙◌}
use Rattle.used_decisions.proofs.path.Path.order.Goals as goal

pub returns : goal.returns
returns c = rw (← c.self.view_is) (c.as_slice.ensures.value ∙ c.self.invariant.tables.placed)
