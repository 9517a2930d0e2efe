-- Trees that are proofs have no fault.
use Rattle.std.proofs.Common.{◌≡◌, ℕ, ◌+◌, List, [], ◌∷◌, arith, inl, inr, refl}
use Rattle.std.proofs.lemmas.Bool.{both_ways}
use Rattle.ttp_model.specs.declared.step.Leaf.{Leaf}
use Rattle.ttp_model.specs.Instance.{Instance}
use Rattle.tt_choice.specs.Choice.{Choice}
use Rattle.tt_choice.specs.Branches.{IsBranch, root_choice}
use Rattle.sought_plans.specs.Known.{first_facts}
use Rattle.tt_infer.proofs.Determined.{Lead-determined}
use Rattle.tt_infer.proofs.Leaves.{fault-no_Lead}
use Rattle.certificate.specs.declared.branch.Branch.{Branch}
use Rattle.certificate.specs.declared.node.Node.{Node}
use Rattle.certificate.specs.declared.node.Node.TheVariants as node
use Rattle.certificate.specs.Trees.{Trees, none, grow}
use Rattle.certificate.specs.Lines.{node_lines, lines}
use Rattle.certificate.specs.Cert.{Cert}
use Rattle.tree_check.specs.declared.fault.NodeFault.{NodeFault}
use Rattle.tree_check.specs.declared.fault.NodeFault.TheVariants.{NotOpen, ChildCount, LowGoal, RefusedStep, NotClosed}
use Rattle.tree_check.specs.declared.fault.CertFault.{CertFault}
use Rattle.tree_check.specs.declared.fault.CertFault.TheVariants.{LowTooGreat, At, OutOfMemory}
use Rattle.tree_check.specs.Proofs.{choices_below, ClosesFrom, Suits, AreProofs, Proves}
use Rattle.tree_check.specs.Faults.{IsBranchFault, IsLeafFault, IsNodeFault, IsFirstTreeFault}
use Rattle.tree_check.specs.Seen.{TellsFirst}

-- nothing is wrong with a branch that is open and has just its children,
no_branch_fault : (i : Instance) (c : Choice) (branch : Branch) (fault : NodeFault) → IsBranch i c branch.kind branch.children
    → ¬ IsBranchFault i c branch fault
no_branch_fault i c branch NotOpen suits is = is suits.is_open
no_branch_fault i c branch ChildCount suits is = is.1 suits.just
no_branch_fault i c branch LowGoal suits is = is
no_branch_fault i c branch RefusedStep suits is = is
no_branch_fault i c branch NotClosed suits is = is

-- nor with a leaf that closes: it has no step that is refused, and doesn't stay open
no_leaf_fault : (i : Instance) (low : ℕ) (c : Choice) (leaf : Leaf) (line at : ℕ) (fault : NodeFault) → ClosesFrom i low c leaf
    → ¬ IsLeafFault i low c leaf line at fault
no_leaf_fault i low c leaf line at NotOpen suits is = is
no_leaf_fault i low c leaf line at ChildCount suits is = is
no_leaf_fault i low c leaf line at LowGoal suits is = absurd (omega (arith, is.1, suits.goal))
no_leaf_fault i low c leaf line at RefusedStep suits is =
    let closes = suits.closes in
    let r = is.1.2 in
    absurd (fault-no_Lead i c leaf.goal (first_facts i c) r.before r.known r.step r.fault r.after closes.0 r.lead r.refused (rw r.steps_are at closes.1))
no_leaf_fault i low c leaf line at NotClosed suits is =
    let closes = suits.closes in
    let stays = is.1.1 in
    let same = Lead-determined i c leaf.goal (first_facts i c) leaf.steps stays.0 closes.0 stays.1 closes.1 in
    absurd (both_ways _ (rw same at stays.2) closes.2)

-- nothing is wrong with a node that suits its choice
no_node_fault : (i : Instance) (low : ℕ) (c : Choice) (node : Node) (line at : ℕ) (fault : NodeFault) → Suits i low c node
    → ¬ IsNodeFault i low c node line at fault
no_node_fault i low c (node.Branch branch) line at fault suits is = no_branch_fault i c branch fault suits is.1
no_node_fault i low c (node.Leaf leaf) line at fault suits is = no_leaf_fault i low c leaf line at fault suits is

no_first_fault : (i : Instance) (low : ℕ) (cs : List Choice) (trees : Trees) (line at : ℕ) (fault : NodeFault) → AreProofs i low cs trees
    → ¬ IsFirstTreeFault i low cs trees line at fault
no_first_fault i low [] trees line at fault are is = is
no_first_fault i low (c ∷ cs) none line at fault are is = is
no_first_fault i low (c ∷ cs) (grow node below beside) line at fault are is = elim is [
  | inl own ↦ no_node_fault i low c node line at fault are.0 own
  | inr later ↦ elim later.1 [
    | inl lower ↦ no_first_fault i low (choices_below i c node) below (line + node_lines node) at fault are.1.0 lower
    | inr aside ↦ no_first_fault i low cs beside (line + node_lines node + lines below) at fault are.1.1 aside.1
  ]
]

-- only want of memory is told of a certificate that proves its bound
pub only_memory : (i : Instance) (cert : Cert) (fault : CertFault) → Proves i cert → TellsFirst i cert.low cert.tree fault → fault ≡ OutOfMemory
only_memory i cert LowTooGreat proves tells = absurd tells
only_memory i cert (At at fault) proves tells = absurd (no_first_fault i cert.low (root_choice i ∷ []) cert.tree 3 tells.0 fault proves.tree tells.2)
only_memory i cert OutOfMemory proves tells = refl
