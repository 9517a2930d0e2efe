-- Where the join of certificates stands once some nodes of their joined tree were made. Only private contracts ask for it.
use Rattle.std.specs.Prelude.{◌≡◌, ℕ, ◌<◌, List, [], ◌∷◌, ◌++◌, length, drop, reverse, slice_index_or, Option, None, Some}
use Rattle.ttp_model.specs.declared.step.Leaf.{Leaf}
use Rattle.ttp_model.specs.Instance.{Instance}
use Rattle.tt_choice.specs.Choice.{Choice, IsChoice, bare}
use Rattle.certificate.specs.declared.branch.Branch.{Branch}
use Rattle.certificate.specs.declared.node.Node.{Node}
use Rattle.certificate.specs.declared.node.Node.TheVariants as node
use Rattle.certificate.specs.Trees.{preorder, trees_of}
use Rattle.certificate.specs.Cert.{Cert}
use Rattle.tree_check.specs.declared.walk.Walk.{Walk}
use Rattle.tree_check.specs.Turns.{IsWalk}
use Rattle.tree_check.specs.Seen.{IsSeen}
use Rattle.side_by_side.specs.declared.side.Side.{Side}
use Rattle.side_by_side.specs.declared.frame.NodePlace.{NodePlace}
use Rattle.side_by_side.specs.declared.frame.Frame.{Frame}
use Rattle.side_by_side.specs.Joined.{IsJoinedTree, own_trees}
use Rattle.side_by_side.specs.Bounds.{IsRight}
use Rattle.side_by_side.specs.Found.{side_at}
use Rattle.side_by_side.specs.Passing.{Group, AreJoined, AreGroups, AreRight, IsLeft, all_choices}

-- a leaf stands there in a certificate
pub record HasLeaf (certs : List Cert) (spot : NodePlace) (leaf : Leaf) : Type 0 where
  pub certificate : spot.certificate < length certs
  pub inside : spot.node < length (preorder (own_trees certs spot.certificate))
  pub is : slice_index_or (preorder (own_trees certs spot.certificate)) spot.node (node.Leaf leaf) ≡ node.Leaf leaf

-- or a branch
pub record HasBranch (certs : List Cert) (spot : NodePlace) (branch : Branch) : Type 0 where
  pub certificate : spot.certificate < length certs
  pub inside : spot.node < length (preorder (own_trees certs spot.certificate))
  pub is : slice_index_or (preorder (own_trees certs spot.certificate)) spot.node (node.Branch branch) ≡ node.Branch branch

abbrev pub IsSpot : List Cert → Option NodePlace → Option Leaf → Type 0
IsSpot certs None leaf = leaf ≡ None
IsSpot certs (Some spot) leaf = (own : Leaf) × (leaf ≡ Some own) × HasLeaf certs spot own

-- how many places are to come side by side, and the leaf from above
pub record IsFrame (certs : List Cert) (g : Group) (frame : Frame) : Type 0 where
  pub due : frame.due ≡ length g.choices
  pub above : IsSpot certs frame.above g.above

abbrev pub AreFrames : List Cert → List Group → List Frame → Type 0
AreFrames certs [] [] = Unit {0}
AreFrames certs [] (f ∷ fs) = ⊥
AreFrames certs (g ∷ gs) [] = ⊥
AreFrames certs (g ∷ gs) (f ∷ fs) = IsFrame certs g f × AreFrames certs gs fs

-- what is left of each certificate is at these places, and right there where the certificate is
pub record AreSides (i : Instance) (certs : List Cert) (groups : List Group) (sides : List Side) : Type 0 where
  pub count : length sides ≡ length certs
  pub left : (k : ℕ) → k < length certs
      → IsLeft k groups (side_at sides k).level (drop (side_at sides k).passed (preorder (own_trees certs k)))
  pub right : (k : ℕ) → k < length certs → IsRight i (own_trees certs k) → AreRight i k groups

-- Nodes were made, and trees for these places are to follow: whatever trees are joined ones there make a joined tree with them.
pub record Makes (i : Instance) (certs : List Cert) (groups : List Group) (made : List Node) : Type 0 where
  pub seen : IsSeen i 0 made [] (all_choices groups)
  pub joins : (rest : List Node) → AreJoined i certs groups (trees_of rest) → IsJoinedTree i certs (trees_of (made ++ rest))

pub record IsJoining (i : Instance) (certs : List Cert) (walk : Walk) (sides : List Side) (frames : List Frame) (made : List Node) : Type 0 where
  pub groups : List Group
  pub walk_is : IsWalk i walk (all_choices groups)
  pub frames_are : AreFrames certs groups (reverse frames)
  pub groups_are : AreGroups i certs groups
  pub sides_are : AreSides i certs groups sides
  pub makes : Makes i certs groups made

-- The same with one frame more, of places of which the first is next.
pub record IsAtPlace (i : Instance) (certs : List Cert) (walk : Walk) (sides : List Side) (frames : List Frame) (frame : Frame) (made : List Node)
    : Type 0 where
  pub group : Group
  pub groups : List Group
  pub choice : Choice
  pub choices : List Choice
  pub choices_are : group.choices ≡ choice ∷ choices
  pub walk_is : IsWalk i walk (choice ∷ (choices ++ all_choices groups))
  pub frame_is : IsFrame certs group frame
  pub frames_are : AreFrames certs groups (reverse frames)
  pub groups_are : AreGroups i certs (group ∷ groups)
  pub sides_are : AreSides i certs (group ∷ groups) sides
  pub makes : Makes i certs (group ∷ groups) made

-- The same where the walk stands at the next place's choice.
pub record IsHere (i : Instance) (certs : List Cert) (walk : Walk) (sides : List Side) (frames : List Frame) (frame : Frame) (made : List Node)
    : Type 0 where
  pub group : Group
  pub groups : List Group
  pub choices : List Choice
  pub choices_are : group.choices ≡ bare walk.choice ∷ choices
  pub choice : IsChoice i walk.choice
  pub walk_is : IsWalk i walk (choices ++ all_choices groups)
  pub frame_is : IsFrame certs group frame
  pub frames_are : AreFrames certs groups (reverse frames)
  pub groups_are : AreGroups i certs (group ∷ groups)
  pub sides_are : AreSides i certs (group ∷ groups) sides
  pub makes : Makes i certs (group ∷ groups) made
