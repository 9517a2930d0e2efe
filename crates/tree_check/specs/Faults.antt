-- Why a certificate doesn't prove its bound: the first fault in preorder, and its line.
use Rattle.std.specs.Prelude.{◌≡◌, ℕ, ◌+◌, ◌-◌, ◌^◌, ◌<◌, ◌≤◌, ◌≢◌, List, [], ◌∷◌, ◌++◌, length, min, IsFalse, ◌⊎◌, Result, Ok, Err}
use Rattle.ttp_model.specs.declared.step.Leaf.{Leaf}
use Rattle.ttp_model.specs.declared.step.Step.{Step}
use Rattle.ttp_model.specs.Instance.{Instance}
use Rattle.tt_choice.specs.Choice.{Choice}
use Rattle.tt_choice.specs.Branches.{IsOpen, root_choice, children}
use Rattle.tt_infer.specs.declared.fault.StepFault.{StepFault}
use Rattle.sought_plans.specs.Known.{Known, first_facts}
use Rattle.tt_infer.specs.Leaves.{Lead}
use Rattle.tt_infer.specs.Answers.{IsStepFault}
use Rattle.certificate.specs.declared.branch.Branch.{Branch}
use Rattle.certificate.specs.declared.node.Node.{Node}
use Rattle.certificate.specs.declared.node.Node.TheVariants as node
use Rattle.certificate.specs.Trees.{Trees, none, grow}
use Rattle.certificate.specs.Lines.{node_lines, lines}
use Rattle.certificate.specs.Cert.{Cert}
use Rattle.tree_check.specs.declared.fault.NodeFault.{NodeFault}
use Rattle.tree_check.specs.declared.fault.NodeFault.TheVariants.{NotOpen, ChildCount, LowGoal, RefusedStep, NotClosed}
use Rattle.tree_check.specs.declared.fault.CertFault.{CertFault}
use Rattle.tree_check.specs.declared.fault.CertFault.TheVariants.{LowTooGreat, At, OutOfMemory}
use Rattle.tree_check.specs.Proofs.{choices_below, Suits, AreProofs, Proves}

-- steps are all lawful, and yet plans may be left
abbrev pub StaysOpen : Instance → Choice → ℕ → List Step → Type 0
StaysOpen i c goal steps = (g : Known) × Lead i c goal (first_facts i c) steps g × IsFalse g.closed

-- after steps that are lawful the one at this place, from 0, is refused
pub record IsRefusedAt (i : Instance) (c : Choice) (goal : ℕ) (steps : List Step) (place : ℕ) : Type 0 where
  pub before : List Step
  pub step : Step
  pub after : List Step
  pub steps_are : steps ≡ before ++ step ∷ after
  pub place_is : length before ≡ place
  pub known : Known
  pub lead : Lead i c goal (first_facts i c) before known
  pub fault : StepFault
  pub refused : IsStepFault i c goal known step fault

-- what is wrong with a branch
abbrev pub IsBranchFault : Instance → Choice → Branch → NodeFault → Type 0
IsBranchFault i c branch NotOpen = ¬ IsOpen i c branch.kind
IsBranchFault i c branch ChildCount =
    IsOpen i c branch.kind × (branch.children ≢ children i c branch.kind)
IsBranchFault i c branch LowGoal = ⊥
IsBranchFault i c branch RefusedStep = ⊥
IsBranchFault i c branch NotClosed = ⊥

-- what is wrong with a leaf, whose line is given, and at which line
abbrev pub IsLeafFault : Instance → ℕ → Choice → Leaf → ℕ → ℕ → NodeFault → Type 0
IsLeafFault i low c leaf line at NotOpen = ⊥
IsLeafFault i low c leaf line at ChildCount = ⊥
IsLeafFault i low c leaf line at LowGoal = (at ≡ line) × (leaf.goal < low)
IsLeafFault i low c leaf line at RefusedStep =
    (low ≤ leaf.goal)
    × ((place : ℕ) × (at ≡ line + 1 + place) × IsRefusedAt i c leaf.goal leaf.steps place)
IsLeafFault i low c leaf line at NotClosed =
    (at ≡ line) × ((low ≤ leaf.goal) × StaysOpen i c leaf.goal leaf.steps)

-- what is wrong with a node, whose line is given, and at which line
abbrev pub IsNodeFault : Instance → ℕ → Choice → Node → ℕ → ℕ → NodeFault → Type 0
IsNodeFault i low c (node.Branch branch) line at fault = (at ≡ line) × IsBranchFault i c branch fault
IsNodeFault i low c (node.Leaf leaf) line at fault = IsLeafFault i low c leaf line at fault

-- the first fault of trees side by side, the first of which begins at this line: of the first tree's
-- top node, or of the trees below it, where the node suits its choice, or of the trees beside it,
-- where those below are proofs
abbrev pub IsFirstTreeFault : Instance → ℕ → List Choice → Trees → ℕ → ℕ → NodeFault → Type 0
IsFirstTreeFault i low [] trees line at fault = ⊥
IsFirstTreeFault i low (c ∷ cs) none line at fault = ⊥
IsFirstTreeFault i low (c ∷ cs) (grow node below beside) line at fault =
    IsNodeFault i low c node line at fault
    ⊎ (Suits i low c node
    × (IsFirstTreeFault i low (choices_below i c node) below (line + node_lines node) at fault
    ⊎ (AreProofs i low (choices_below i c node) below
    × IsFirstTreeFault i low cs beside (line + node_lines node + lines below) at fault)))

-- a line that is told: one past the greatest number of 64 bits is told as that
abbrev pub told_line : ℕ → ℕ
told_line line = min line (2 ^ 64 - 1)

-- what the answer to a certificate says: a bound that is too great goes before all that takes memory
abbrev pub IsJudged : Instance → Cert → Result ℕ CertFault → Type 0
IsJudged i cert (Ok low) = (low ≡ cert.low) × Proves i cert
IsJudged i cert (Err LowTooGreat) = i.cluster.horizon + 1 < cert.low
IsJudged i cert (Err (At line fault)) =
    (cert.low ≤ i.cluster.horizon + 1)
    × ((at : ℕ) × (line ≡ told_line at) × IsFirstTreeFault i cert.low (root_choice i ∷ []) cert.tree 3 at fault)
IsJudged i cert (Err OutOfMemory) = cert.low ≤ i.cluster.horizon + 1
