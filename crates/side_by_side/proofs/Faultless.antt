-- What is told of a certificate is wrong with it: a node that suits its choice has no fault.
use Rattle.std.proofs.Common.{ℕ, List, arith}
use Rattle.std.proofs.lemmas.Bool.{both_ways}
use Rattle.ttp_model.specs.declared.step.Leaf.{Leaf}
use Rattle.ttp_model.specs.Instance.{Instance}
use Rattle.tt_choice.specs.Choice.{Choice}
use Rattle.tt_choice.specs.Branches.{IsBranch}
use Rattle.sought_plans.specs.Known.{first_facts}
use Rattle.tt_infer.proofs.Determined.{Lead-determined}
use Rattle.tt_infer.proofs.Leaves.{fault-no_Lead}
use Rattle.certificate.specs.declared.branch.Branch.{Branch}
use Rattle.certificate.specs.declared.node.Node.{Node}
use Rattle.certificate.specs.declared.node.Node.TheVariants as node
use Rattle.certificate.specs.Cert.{Cert}
use Rattle.tree_check.specs.declared.fault.NodeFault.{NodeFault}
use Rattle.tree_check.specs.declared.fault.NodeFault.TheVariants.{NotOpen, ChildCount, LowGoal, RefusedStep, NotClosed}
use Rattle.tree_check.specs.Proofs.{ClosesFrom, Suits}
use Rattle.tree_check.specs.Faults.{IsBranchFault, IsLeafFault, IsNodeFault}
use Rattle.side_by_side.specs.declared.fault.JoinFault.TheVariants.{At}
use Rattle.side_by_side.specs.Bounds.{IsRight}
use Rattle.side_by_side.specs.Joined.{own_trees}
use Rattle.side_by_side.specs.Faults.{IsJoinFault}

no_branch_fault : (i : Instance) (c : Choice) (branch : Branch) (fault : NodeFault) → IsBranch i c branch.kind branch.children
    → ¬ IsBranchFault i c branch fault
no_branch_fault i c branch NotOpen suits is = is suits.is_open
no_branch_fault i c branch ChildCount suits is = is.1 suits.just
no_branch_fault i c branch LowGoal suits is = is
no_branch_fault i c branch RefusedStep suits is = is
no_branch_fault i c branch NotClosed suits is = is

no_leaf_fault : (i : Instance) (low : ℕ) (c : Choice) (leaf : Leaf) (line at : ℕ) (fault : NodeFault) → ClosesFrom i low c leaf
    → ¬ IsLeafFault i low c leaf line at fault
no_leaf_fault i low c leaf line at NotOpen suits is = is
no_leaf_fault i low c leaf line at ChildCount suits is = is
no_leaf_fault i low c leaf line at LowGoal suits is = absurd (omega (arith, is.1, suits.goal))
no_leaf_fault i low c leaf line at RefusedStep suits is =
    let closes = suits.closes in
    let r = is.1.2 in
    absurd (fault-no_Lead i c leaf.goal (first_facts i c) r.before r.known r.step r.fault r.after closes.0 r.lead r.refused (rw r.steps_are at closes.1))
no_leaf_fault i low c leaf line at NotClosed suits is =
    let closes = suits.closes in
    let stays = is.1.1 in
    let same = Lead-determined i c leaf.goal (first_facts i c) leaf.steps stays.0 closes.0 stays.1 closes.1 in
    absurd (both_ways _ (rw same at stays.2) closes.2)

no_node_fault : (i : Instance) (low : ℕ) (c : Choice) (n : Node) (line at : ℕ) (fault : NodeFault) → Suits i low c n
    → ¬ IsNodeFault i low c n line at fault
no_node_fault i low c (node.Branch branch) line at fault suits is = no_branch_fault i c branch fault suits is.1
no_node_fault i low c (node.Leaf leaf) line at fault suits is = no_leaf_fault i low c leaf line at fault suits is

-- a certificate of which a fault is told isn't right
pub told_is_wrong : (i : Instance) (certs : List Cert) (k line : ℕ) (fault : NodeFault) → IsJoinFault i certs (At k line fault)
    → ¬ IsRight i (own_trees certs k)
told_is_wrong i certs k line fault told right =
    no_node_fault i 0 told.choice told.node 0 told.behind fault (told.there.right right) told.wrong
