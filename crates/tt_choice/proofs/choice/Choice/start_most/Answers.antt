use Rattle.tt_choice.proofs.Exact.{start_most_is_most}
use Rattle.tt_choice.proofs.choice.Choice.start_most.Goals as goal

pub returns-clause-most : goal.returns-clause-most
returns-clause-most c = rw (c.from.ensures, c.round_most.ensures.value, c.offset_most.ensures.value) (start_most_is_most _ _ c.args.n c.args.r c.nodes-nodes.ensures.instance c.requires.of c.requires.node)
