use Rattle.std.proofs.Common.{◌∙◌}
use Rattle.endless_schedules.proofs.Pieces.{stores_done}
use Rattle.endless_schedules.proofs.stores.push_stores.Goals as goal

pub returns : goal.returns
returns c =
    rw (← stores_done c.args.rates.now c.args.list.now.items c.args.message.now c.as_slice.result.now (c.as_slice.ensures ∙ c.in_ok-nodes.ensures.nodes))
    c.push_stores_at.ensures
