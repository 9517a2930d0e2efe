use Rattle.tt_choice.specs.Choice.{bare}
use Rattle.certificate_reasons.proofs.nodes.node_reason.Goals as goal

pub branch_reason-requires : goal.branch_reason-requires
branch_reason-requires c = (bare c.args.spot.choice.now, (rw c.in-Branch.is at c.requires.fault).1)

pub leaf_reason-requires-clause-fault : goal.leaf_reason-requires-clause-fault
leaf_reason-requires-clause-fault c = rw c.in-Leaf.is at c.requires.fault

pub returns-in-Branch : goal.returns-in-Branch
returns-in-Branch c = rw c.in-Branch.is c.branch_reason.ensures

pub returns-in-Leaf : goal.returns-in-Leaf
returns-in-Leaf c = rw c.in-Leaf.is c.leaf_reason.ensures
