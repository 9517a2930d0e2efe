-- What is wrong with one of several certificates. Own profile.
use Rattle.std.specs.Prelude.{◌≡◌, ℕ, ◌+◌, ◌<◌, List, length, slice_index_or}
use Rattle.ttp_model.specs.Instance.{Instance}
use Rattle.tt_choice.specs.Choice.{Choice}
use Rattle.certificate.specs.declared.node.Node.{Node}
use Rattle.certificate.specs.Trees.{preorder}
use Rattle.certificate.specs.Lines.{line_of}
use Rattle.certificate.specs.Cert.{Cert}
use Rattle.tree_check.specs.declared.fault.NodeFault.{NodeFault}
use Rattle.tree_check.specs.declared.fault.CertFault.{CertFault}
use Rattle.tree_check.specs.Proofs.{Suits}
use Rattle.tree_check.specs.Faults.{IsNodeFault, told_line}
use Rattle.tree_check.specs.Seen.{TellsNode}
use Rattle.side_by_side.specs.declared.fault.JoinFault.{JoinFault}
use Rattle.side_by_side.specs.declared.fault.JoinFault.TheVariants.{At, OutOfMemory}
use Rattle.side_by_side.specs.Joined.{own_trees}
use Rattle.side_by_side.specs.Bounds.{IsRight}

-- A node of a certificate, from 0 in preorder, and the choice at which it stands: which it suits where the certificate's tree is right.
pub record IsNodeAt (i : Instance) (certs : List Cert) (k place : ℕ) (c : Choice) (node : Node) : Type 0 where
  pub certificate : k < length certs
  pub inside : place < length (preorder (own_trees certs k))
  pub node_is : slice_index_or (preorder (own_trees certs k)) place node ≡ node
  pub right : IsRight i (own_trees certs k) → Suits i 0 c node

-- A node is at fault at the choice at which it stands, and the line that is told is its own, or that of its step.
pub record IsAtFault (i : Instance) (certs : List Cert) (k line : ℕ) (fault : NodeFault) : Type 0 where
  pub place : ℕ
  pub choice : Choice
  pub node : Node
  pub there : IsNodeAt i certs k place choice node
  pub behind : ℕ
  pub told : line ≡ told_line (line_of (preorder (own_trees certs k)) place + behind)
  pub wrong : IsNodeFault i 0 choice node 0 behind fault

-- why certificates aren't joined
abbrev pub IsJoinFault : Instance → List Cert → JoinFault → Type 0
IsJoinFault i certs (At k line fault) = IsAtFault i certs k line fault
IsJoinFault i certs OutOfMemory = Unit {0}

-- the same as it is told of the node alone
pub record TellsOwn (i : Instance) (certs : List Cert) (k place : ℕ) (c : Choice) (fault : CertFault) : Type 0 where
  pub node : Node
  pub there : IsNodeAt i certs k place c node
  pub tells : TellsNode i 0 c node 0 fault
