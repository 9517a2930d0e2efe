-- What is found at a place, and one step of a join. Only private contracts ask for it.
use Rattle.std.specs.Prelude.{◌≡◌, ℕ, ◌+◌, ◌*◌, ◌<◌, ◌≤◌, [], ◌∷◌, ◌++◌, length, Option, None, Some, Bool, IsTrue}
use Rattle.ttp_model.specs.declared.step.Leaf.{Leaf}
use Rattle.tt_choice.specs.Choice.{bare}
use Rattle.tt_infer.specs.Leaves.{ClosesLeaf}
use Rattle.certificate.specs.declared.branch.Branch.{Branch}
use Rattle.certificate.specs.declared.node.Node.TheVariants as node
use Rattle.side_by_side.specs.declared.frame.NodePlace.{NodePlace}
use Rattle.side_by_side.specs.declared.frame.Frame.{Frame}
use Rattle.side_by_side.specs.declared.joining.Joining.{Joining}
use Rattle.side_by_side.specs.Joined.{IsBest, Leads, branch_on_top}
use Rattle.side_by_side.specs.Faults.{IsNodeAt}
use Rattle.side_by_side.specs.Found.{side_at}
use Rattle.side_by_side.specs.Left.{left_of}
use Rattle.side_by_side.specs.Passing.{IsHeldAt}
use Rattle.side_by_side.specs.Joining.{IsSpot, IsJoining, IsAtPlace, IsHere}

-- the join of a certificate's parts stands there
abbrev pub IsJoiningOf : Joining → Type 0
IsJoiningOf j = IsJoining j.instance.now j.certs.now j.walk j.sides.items j.frames.items j.nodes.items

-- and with one frame more, which is taken out
abbrev pub IsJoiningWith : Joining → Frame → Type 0
IsJoiningWith j frame = IsJoining j.instance.now j.certs.now j.walk j.sides.items (j.frames.items ++ frame ∷ []) j.nodes.items

abbrev pub IsAtPlaceOf : Joining → Frame → Type 0
IsAtPlaceOf j frame = IsAtPlace j.instance.now j.certs.now j.walk j.sides.items j.frames.items frame j.nodes.items

abbrev pub IsHereOf : Joining → Frame → Type 0
IsHereOf j frame = IsHere j.instance.now j.certs.now j.walk j.sides.items j.frames.items frame j.nodes.items

-- the leaf that is the best one at the place; it closes the choice there where it was judged, and else a choice around it
pub record KnowsBest (j : Joining) (frame : Frame) (at : IsHereOf j frame) (spot : Option NodePlace) (judged : Bool) : Type 0 where
  pub best : Option Leaf
  pub is : IsBest (length j.certs.now) at.group.above at.group.at best
  pub spot_is : IsSpot j.certs.now spot best
  pub held : IsHeldAt j.instance.now (bare j.walk.choice) best
  pub closes : IsTrue judged → (leaf : Leaf) → best ≡ Some leaf → ClosesLeaf j.instance.now (bare j.walk.choice) leaf

-- a certificate's branch is the one that leads there
pub record KnowsLeader (j : Joining) (frame : Frame) (at : IsHereOf j frame) (k : ℕ) : Type 0 where
  pub branch : Branch
  pub leads : Leads j.certs.now at.group.at branch
  pub number_is : leads.number ≡ k

-- which certificate's branch leads, if one does
abbrev pub FindsLeader : (j : Joining) (frame : Frame) → IsHereOf j frame → Option ℕ → Type 0
FindsLeader j frame at None = (k : ℕ) → k < length j.certs.now → branch_on_top (at.group.at k) ≡ None
FindsLeader j frame at (Some k) = KnowsLeader j frame at k

-- whose leaf is the best one, if it isn't the one from above
abbrev pub FindsBest : (j : Joining) (frame : Frame) → IsHereOf j frame → Option ℕ → Type 0
FindsBest j frame at None = IsBest (length j.certs.now) at.group.above at.group.at at.group.above
FindsBest j frame at (Some k) =
    (leaf : Leaf) × IsBest (length j.certs.now) at.group.above at.group.at (Some leaf)
    × IsNodeAt j.instance.now j.certs.now k (side_at j.sides.items k).passed (bare j.walk.choice) (node.Leaf leaf)

-- What is joined stays; of the certificates fewer nodes are left, and at most two frames more are to come.
pub record IsStep (old new : Joining) : Type 0 where
  pub instance : new.instance ≡ old.instance
  pub certs : new.certs ≡ old.certs

pub record IsFewer (old new : Joining) : Type 0 where
  pub left : left_of old.certs.now new.sides.items (length old.certs.now) < left_of old.certs.now old.sides.items (length old.certs.now)
  pub frames : length new.frames.items ≤ length old.frames.items + 2

-- how much is left to do: each node makes at most two frames more
abbrev pub work_of : Joining → ℕ
work_of j = 2 * left_of j.certs.now j.sides.items (length j.certs.now) + length j.frames.items
