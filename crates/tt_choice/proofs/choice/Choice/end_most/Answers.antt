use Rattle.tt_choice.proofs.Exact.{end_most_is_most}
use Rattle.tt_choice.proofs.choice.Choice.end_most.Goals as goal

pub returns-clause-most : goal.returns-clause-most
returns-clause-most c = rw (c.start_most.ensures.value, c.dur_most.ensures.value) (end_most_is_most _ _ c.args.n c.args.r c.nodes-nodes.ensures.instance c.requires.of c.requires.node)
