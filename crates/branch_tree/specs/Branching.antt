-- Which branches the search may take. Own profile.
use Rattle.std.specs.Prelude.{ℕ, ◌<◌, Option, Some, None}
use Rattle.ttp_model.specs.declared.step.Kind.{Kind}
use Rattle.ttp_model.specs.Instance.{Instance}
use Rattle.branch_tree.specs.declared.branching.candidate.Candidate.{Candidate}
use Rattle.tt_choice.specs.Choice.{Choice, IsComplete, IsOrdered}
use Rattle.tt_choice.specs.Branches.{IsOpen}
use Rattle.tt_choice.specs.Sizes.{Halves}

-- an open branch, each of whose children leaves less to choose
pub record IsBranching (i : Instance) (c : Choice) (kind : Kind) : Type 0 where
  pub is_open : IsOpen i c kind
  pub halves : Halves c kind

-- a branch, if there is one
abbrev pub MayBranch : Instance → Choice → Option Kind → Type 0
MayBranch i c None = Unit {0}
MayBranch i c (Some kind) = IsBranching i c kind

-- a branch; none only where nothing is left to choose
abbrev pub Branches : Instance → Choice → Option Kind → Type 0
Branches i c None = IsComplete i c
Branches i c (Some kind) = IsBranching i c kind

-- process p is in one order or the other with each q below a number that stands on its node
abbrev pub OrderedBelow : Instance → Choice → ℕ → ℕ → Type 0
OrderedBelow i c p count = (q : ℕ) → q < count → IsOrdered i c p q

-- a branch on a conflict, if there is one
abbrev pub MayTake : Instance → Choice → Option Candidate → Type 0
MayTake i c None = Unit {0}
MayTake i c (Some candidate) = IsBranching i c candidate.kind
