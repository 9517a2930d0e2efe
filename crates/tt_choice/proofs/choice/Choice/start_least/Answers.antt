use Rattle.tt_choice.proofs.Exact.{start_least_is_least}
use Rattle.tt_choice.proofs.choice.Choice.start_least.Goals as goal

pub returns-clause-least : goal.returns-clause-least
returns-clause-least c = rw (c.from.ensures, c.round_least.ensures.value, c.offset_least.ensures.value) (start_least_is_least _ _ c.args.n c.args.r c.nodes-nodes.ensures.instance c.requires.of c.requires.node)
