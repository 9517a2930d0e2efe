use Rattle.std.proofs.Common.{◌∙◌}
use Rattle.endless_schedules.proofs.Pieces.{nodes_none, nodes_some}
use Rattle.endless_schedules.proofs.stores.storing_nodes.Goals as goal

pub returns-then-message-eq0-clause-nodes : goal.returns-then-message-eq0-clause-nodes
returns-then-message-eq0-clause-nodes c = c.new-then-message-eq0.ensures ∙ c.new.ensures.items ∙ nodes_none c.args.rates.now c.args.message.now c.if-message-eq0.true

pub returns-clause-nodes : goal.returns-clause-nodes
returns-clause-nodes c =
    c.new-2.ensures ∙ rw c.as_slice.ensures at c.in_ok-nodes.ensures.nodes ∙ nodes_some c.args.rates.now c.args.message.now c.if-message-eq0.false
