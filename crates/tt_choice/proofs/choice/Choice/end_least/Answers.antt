use Rattle.tt_choice.proofs.Exact.{end_least_is_least}
use Rattle.tt_choice.proofs.choice.Choice.end_least.Goals as goal

pub returns-clause-least : goal.returns-clause-least
returns-clause-least c = rw (c.start_least.ensures.value, c.dur_least.ensures.value) (end_least_is_least _ _ c.args.n c.args.r c.nodes-nodes.ensures.instance c.requires.of c.requires.node)
