-- The goals of a worker's leaves, against what its watch has seen and offered.
use Rattle.std.specs.Prelude.{ℕ, ◌-◌, ◌≤◌, ◌⊎◌, List, [], ◌∷◌, All, Contains, nat_le, if◌then◌else◌, max, min}
use Rattle.std.specs.List.{flat_map}
use Rattle.ttp_model.specs.Instance.{Instance}
use Rattle.certificate.specs.declared.node.Node.{Node}
use Rattle.certificate.specs.declared.node.Node.TheVariants as node
use Rattle.branch_tree.specs.piece.Piece.{Piece}
use Rattle.search_workers.specs.declared.aims.Aims.{Aims}
use Rattle.incumbent.specs.declared.word.Watch.{Watch}
use Rattle.incumbent.specs.Watch.{seen, offers, IsSameWatch}

-- the goal of a leaf; none of a branch
abbrev pub goals_at : Node → List ℕ
goals_at (node.Branch branch) = []
goals_at (node.Leaf leaf) = leaf.goal ∷ []

-- the goals of all leaves, in the order of the pieces
abbrev pub goals_of : List Piece → List ℕ
goals_of pieces = flat_map (λ (piece : Piece). goals_at piece.node) pieces

-- no goal is above an earlier one
abbrev pub NeverRise : List ℕ → Type 0
NeverRise [] = Unit {0}
NeverRise (goal ∷ goals) = All (λ later. later ≤ goal) goals × NeverRise goals

-- the goal of who has seen this delay: less the gap, but no less than the floor; what is past the horizon is no plan's delay, and stays
abbrev pub goal_of : Instance → Aims → ℕ → ℕ
goal_of i aims seen = if nat_le seen i.cluster.horizon then max (seen - aims.gap) (min seen aims.floor) else seen

-- some answer or offer of the watch has a goal of at most this one
pub record IsReached (i : Instance) (aims : Aims) (w : Watch) (goal : ℕ) : Type 0 where
  pub value : ℕ
  pub known : Contains (seen w) value ⊎ Contains (offers w) value
  pub at_most : goal_of i aims value ≤ goal

-- the goals of all answers and offers of the watch are at least this one
abbrev pub IsBelowGoals : Instance → Aims → Watch → ℕ → Type 0
IsBelowGoals i aims w goal = All (λ x. goal ≤ goal_of i aims x) (seen w) × All (λ x. goal ≤ goal_of i aims x) (offers w)

-- a watch of the same incumbent, with all that was seen or offered before
pub record Follows (old new : Watch) : Type 0 where
  pub same : IsSameWatch old new
  pub sees : (x : ℕ) → Contains (seen old) x → Contains (seen new) x
  pub offered : (x : ℕ) → Contains (offers old) x → Contains (offers new) x

-- Goals in the order in which they were worked: none is above an earlier one, each is at most the goals of all that the watch had
-- seen or offered at first, and at least that of something that it has seen or offered at last.
pub record AreGoals (i : Instance) (aims : Aims) (old new : Watch) (goals : List ℕ) : Type 0 where
  pub falls : NeverRise goals
  pub below : All (IsBelowGoals i aims old) goals
  pub reached : All (IsReached i aims new) goals
