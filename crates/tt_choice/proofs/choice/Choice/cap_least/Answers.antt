use Rattle.tt_choice.proofs.Exact.{cap_least_is_least}
use Rattle.tt_choice.proofs.choice.Choice.cap_least.Goals as goal

pub returns-clause-least : goal.returns-clause-least
returns-clause-least c = rw (c.least_option.ensures.value, c.fixed_cap.ensures) (cap_least_is_least _ _ c.args.n c.nodes-nodes.ensures.instance c.requires.of c.requires.node)
