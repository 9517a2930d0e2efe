-- What is wrong with a node of a certificate's tree, at the choice that it stands at. Own profile.
use Rattle.std.specs.Prelude.{◌≡◌, ℕ, ◌+◌, ◌-◌, ◌<◌}
use Rattle.ttp_model.specs.declared.step.Leaf.{Leaf}
use Rattle.ttp_model.specs.Instance.{Instance}
use Rattle.tt_choice.specs.Choice.{Choice}
use Rattle.certificate.specs.declared.branch.Branch.{Branch}
use Rattle.certificate.specs.declared.node.Node.{Node}
use Rattle.certificate.specs.declared.node.Node.TheVariants as node
use Rattle.tree_check.specs.declared.fault.NodeFault.{NodeFault}
use Rattle.tree_check.specs.declared.fault.NodeFault.TheVariants as fault
use Rattle.certificate_reasons.specs.declared.nodes.LowGoal.{LowGoal}
use Rattle.certificate_reasons.specs.declared.nodes.NodeReason.{NodeReason}
use Rattle.certificate_reasons.specs.declared.nodes.NodeReason.TheVariants as reason
use Rattle.certificate_reasons.specs.Branches.{IsChildCount, IsNotOpen}
use Rattle.certificate_reasons.specs.Refused.{IsRefusedStep}

-- a leaf's goal is below the bound, by some
pub record IsLowGoal (goal low : ℕ) (r : LowGoal) : Type 0 where
  pub goal_is : r.goal ≡ goal
  pub low_is : r.low ≡ low
  pub some : 0 < r.by
  pub lacking : r.goal + r.by ≡ r.low

-- of a branch
abbrev pub IsBranchReason : Instance → Branch → NodeFault → NodeReason → Type 0
IsBranchReason i branch fault.ChildCount (reason.ChildCount r) = IsChildCount i branch.kind branch.children r
IsBranchReason i branch fault.NotOpen (reason.NotOpen r) = IsNotOpen i branch.kind r
IsBranchReason i branch _ _ = ⊥

-- of a leaf, in the line so far behind its own
abbrev pub IsLeafReason : Instance → ℕ → Choice → Leaf → ℕ → NodeFault → NodeReason → Type 0
IsLeafReason i low c leaf behind fault.LowGoal (reason.LowGoal r) = IsLowGoal leaf.goal low r
IsLeafReason i low c leaf behind fault.RefusedStep (reason.RefusedStep r) = IsRefusedStep i c leaf.goal leaf.steps (behind - 1) r
IsLeafReason i low c leaf behind fault.NotClosed reason.NotClosed = Unit {0}
IsLeafReason i low c leaf behind _ _ = ⊥

-- of a node, in the line so far behind its own
abbrev pub IsNodeReason : Instance → ℕ → NodeFault → ℕ → Choice → Node → NodeReason → Type 0
IsNodeReason i low fault behind c (node.Branch branch) r = IsBranchReason i branch fault r
IsNodeReason i low fault behind c (node.Leaf leaf) r = IsLeafReason i low c leaf behind fault r
