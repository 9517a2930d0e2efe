use Rattle.tt_choice.proofs.Exact.{cap_most_is_most}
use Rattle.tt_choice.proofs.choice.Choice.cap_most.Goals as goal

pub returns-clause-most : goal.returns-clause-most
returns-clause-most c = rw (c.most_option.ensures.value, c.fixed_cap.ensures) (cap_most_is_most _ _ c.args.n c.nodes-nodes.ensures.instance c.requires.of c.requires.node)
