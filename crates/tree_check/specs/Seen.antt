-- Where the check of a certificate stands once some of its nodes were seen. Only private contracts ask for it.
use Rattle.std.specs.Prelude.{◌≡◌, ℕ, ◌+◌, List, [], ◌∷◌, ◌++◌, ◌⊎◌}
use Rattle.ttp_model.specs.declared.step.Leaf.{Leaf}
use Rattle.ttp_model.specs.Instance.{Instance}
use Rattle.tt_choice.specs.Choice.{Choice, IsChoice}
use Rattle.tt_choice.specs.Branches.{root_choice}
use Rattle.certificate.specs.declared.branch.Branch.{Branch}
use Rattle.certificate.specs.declared.node.Node.{Node}
use Rattle.certificate.specs.declared.node.Node.TheVariants as node
use Rattle.certificate.specs.Trees.{Trees, trees_of}
use Rattle.certificate.specs.Lines.{total_lines}
use Rattle.tree_check.specs.declared.fault.NodeFault.{NodeFault}
use Rattle.tree_check.specs.declared.fault.CertFault.{CertFault}
use Rattle.tree_check.specs.declared.fault.CertFault.TheVariants.{LowTooGreat, At, OutOfMemory}
use Rattle.tree_check.specs.Proofs.{ClosesFrom, AreProofs}
use Rattle.tree_check.specs.Faults.{IsBranchFault, IsNodeFault, IsFirstTreeFault, told_line}

-- ---- faults that are told

-- a fault of a node, told by its line as far as 64 bits go
abbrev pub TellsNode : Instance → ℕ → Choice → Node → ℕ → CertFault → Type 0
TellsNode i low c node line LowTooGreat = ⊥
TellsNode i low c node line (At at fault) =
    (first : ℕ) → line ≡ told_line first → (exact : ℕ) × (at ≡ told_line exact) × IsNodeFault i low c node first exact fault
TellsNode i low c node line OutOfMemory = Unit {0}

-- a fault of a branch, at this line
abbrev pub TellsBranch : Instance → Choice → Branch → ℕ → CertFault → Type 0
TellsBranch i c branch line LowTooGreat = ⊥
TellsBranch i c branch line (At at fault) = (at ≡ line) × IsBranchFault i c branch fault
TellsBranch i c branch line OutOfMemory = Unit {0}

-- the first fault of trees for the choice of all plans, the first of which begins at line 3
abbrev pub TellsFirst : Instance → ℕ → Trees → CertFault → Type 0
TellsFirst i low trees LowTooGreat = ⊥
TellsFirst i low trees (At at fault) =
    (exact : ℕ) × (at ≡ told_line exact) × IsFirstTreeFault i low (root_choice i ∷ []) trees 3 exact fault
TellsFirst i low trees OutOfMemory = Unit {0}

-- ---- leaves that wait, once their steps are read

pub record ReadLeaf : Type 0 where
  pub choice : Choice
  pub leaf : Leaf
  pub line : ℕ

-- a leaf waits at a choice of the instance, and its line is one that is told by itself
pub record IsHeld (i : Instance) (held : ReadLeaf) : Type 0 where
  pub choice : IsChoice i held.choice
  pub line : held.line ≡ told_line held.line

-- a leaf that waits closes the choice that it stands at
abbrev pub Closes : Instance → ℕ → ReadLeaf → Type 0
Closes i low held = ClosesFrom i low held.choice held.leaf

abbrev pub AllClose : Instance → ℕ → List ReadLeaf → Type 0
AllClose i low [] = Unit {0}
AllClose i low (held ∷ others) = Closes i low held × AllClose i low others

-- the first of them that doesn't is at fault so
abbrev pub IsFirstHeldFault : Instance → ℕ → List ReadLeaf → ℕ → NodeFault → Type 0
IsFirstHeldFault i low [] at fault = ⊥
IsFirstHeldFault i low (held ∷ others) at fault =
    IsNodeFault i low held.choice (node.Leaf held.leaf) held.line at fault
    ⊎ (Closes i low held × IsFirstHeldFault i low others at fault)

-- the first fault of leaves that wait, as it is told
abbrev pub TellsHeld : Instance → ℕ → List ReadLeaf → CertFault → Type 0
TellsHeld i low held LowTooGreat = ⊥
TellsHeld i low held (At at fault) = (exact : ℕ) × (at ≡ told_line exact) × IsFirstHeldFault i low held exact fault
TellsHeld i low held OutOfMemory = Unit {0}

-- ---- nodes that were seen

-- the line behind nodes, the first of which stands at line 3
abbrev pub line_behind : List Node → ℕ
line_behind seen = 3 + total_lines seen

-- Whatever nodes follow, the trees of all of them have this first fault.
abbrev pub TellsSeen : Instance → ℕ → List Node → CertFault → Type 0
TellsSeen i low seen fault = (rest : List Node) → TellsFirst i low (trees_of (seen ++ rest)) fault

-- Nodes were seen, the branches of which suit, and these of their leaves wait; then trees for these choices are to follow. Where all
-- that wait close and those are proofs, all are proofs; and the first fault of what waits, or else of what follows, is that of all.
pub record IsSeen (i : Instance) (low : ℕ) (seen : List Node) (held : List ReadLeaf) (left : List Choice) : Type 0 where
  pub proofs : AllClose i low held → (rest : List Node) → AreProofs i low left (trees_of rest)
      → AreProofs i low (root_choice i ∷ []) (trees_of (seen ++ rest))
  pub follows : AllClose i low held → (rest : List Node) (at : ℕ) (fault : NodeFault)
      → IsFirstTreeFault i low left (trees_of rest) (line_behind seen) at fault
      → IsFirstTreeFault i low (root_choice i ∷ []) (trees_of (seen ++ rest)) 3 at fault
  pub waits : (rest : List Node) (at : ℕ) (fault : NodeFault)
      → IsFirstHeldFault i low held at fault
      → IsFirstTreeFault i low (root_choice i ∷ []) (trees_of (seen ++ rest)) 3 at fault
