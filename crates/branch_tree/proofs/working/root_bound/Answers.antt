use Rattle.std.proofs.Common.{subst}
use Rattle.tt_infer.specs.Leaves.{ClosesSharply}
use Rattle.search_trees.specs.Task.{Task, choice_of}
use Rattle.branch_tree.proofs.RootBounds.{root_leaf_bounds}
use Rattle.branch_tree.proofs.working.root_bound.Goals as goal

pub returns-clause-bound : goal.returns-clause-bound
returns-clause-bound c =
    let i = c.args.instance.now in
    let leaf = c.in_ok-leaf.leaf in
    root_leaf_bounds i leaf c.nodes-nodes.ensures.instance (subst (λ (t : Task). ClosesSharply i (choice_of i t) leaf)
    c.in_ok-root.ensures.value c.in_ok-leaf.ensures.closes)
