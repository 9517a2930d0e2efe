use Rattle.std.proofs.Common.{◌∙◌}
use Rattle.used_decisions.proofs.path.Path.greatest.Goals as goal

pub returns : goal.returns
returns c = rw (← c.self.view_is) (λ inside. rw c.as_slice.ensures.value at c.item_at.ensures ∙ c.self.invariant.tables.until.told c.args.m inside)
