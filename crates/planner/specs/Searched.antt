-- What a search leaves at its end: pieces that were worked, and pieces that closed what was left.
use Rattle.std.specs.Prelude.{◌≡◌, ℕ, ◌+◌, ◌<◌, ◌≤◌, ◌++◌, ◌⊎◌, min, List, [], length, All, Contains, Option, None, Some}
use Rattle.ttp_model.specs.declared.step.Leaf.{Leaf}
use Rattle.ttp_model.specs.Instance.{Instance}
use Rattle.ttp_model.specs.Chains.{IsPathBound}
use Rattle.certificate.specs.declared.node.Node.{Node}
use Rattle.certificate.specs.declared.node.Node.TheVariants as node
use Rattle.certificate.specs.Trees.{preorder}
use Rattle.certificate.specs.Cert.{Cert}
use Rattle.certificate.specs.Versions.{answer_version}
use Rattle.tree_check.specs.Proofs.{Proves}
use Rattle.used_decisions.specs.Branches.{branches}
use Rattle.search_workers.specs.piece.Piece.{Piece}
use Rattle.search_workers.specs.Pieces.{AreRight}
use Rattle.search_workers.specs.Account.{IsWholeTree}
use Rattle.search_workers.specs.declared.found.FoundPlan.{FoundPlan}
use Rattle.search_workers.specs.declared.outcome.Options.{Options}
use Rattle.search_workers.specs.declared.outcome.Why.{Why}
use Rattle.search_workers.specs.declared.outcome.Outcome.{Outcome}
use Rattle.search_workers.specs.declared.outcome.Why.TheVariants.{Budget, Memory, CalledOff, Gap, Part}
use Rattle.search_workers.specs.declared.aims.Aims.{Aims}
use Rattle.search_workers.specs.Goals.{goal_of}
use Rattle.search_workers.specs.Searching.{aim_of, limit_of, IsFound, IsWorkedOut}
use Rattle.search_workers.specs.Gathering.{HasGoal, HaveGoals}
use Rattle.search_workers.specs.Ends.{IsAnswerOf, IsCauseTold}
use Rattle.planner.specs.Answers.{from_low, worked_at, worked_goal}

-- a goal at which propagation closes the whole tree: at least the path bound, within one tick past the horizon
abbrev pub IsFloor : Instance → ℕ → Type 0
IsFloor i floor = (bound : ℕ) → IsPathBound i bound → min bound (i.cluster.horizon + 1) ≤ floor

-- aims by which no goal is below the lesser of the path bound and the delay that was seen
pub record AreAims (i : Instance) (aims : Aims) : Type 0 where
  pub path : (bound seen : ℕ) → IsPathBound i bound → seen ≤ i.cluster.horizon + 1 → min bound seen ≤ goal_of i aims seen

-- a leaf that closes what was left: no lower than the bound, and than the lesser of the path bound and the goal of the search
pub record IsClosedLeaf (i : Instance) (aim low : ℕ) (piece : Piece) : Type 0 where
  pub leaf : Leaf
  pub is : piece.node ≡ node.Leaf leaf
  pub above : low ≤ leaf.goal
  pub path : (bound : ℕ) → IsPathBound i bound → min bound aim ≤ leaf.goal

-- a leaf that has this goal
pub record ReachesGoal (low : ℕ) (pieces : List Piece) : Type 0 where
  pub piece : Piece
  pub there : Contains pieces piece
  pub leaf : Leaf
  pub is : piece.node ≡ node.Leaf leaf
  pub goal : leaf.goal ≡ low

-- A search at its end, whose tree has a bound of at most the goal at which it worked.
pub record IsSearched (i : Instance) (options : Options) (aims : Aims) (why : Why) (best : Option FoundPlan) (worked closed : List Piece) (low : ℕ) : Type 0 where
  pub whole : IsWholeTree (worked ++ closed) []
  pub right : AreRight i (worked ++ closed)
  pub found : IsFound i best
  pub goals : HaveGoals (aim_of i aims best) worked
  pub leaves : All (IsClosedLeaf i (aim_of i aims best) low) closed
  pub most : low ≤ aim_of i aims best
  pub within : length worked ≤ options.budget
  pub cause : IsWorkedOut options.budget worked why

-- a node of a tree with this goal
pub record HasLeafAt (nodes : List Node) (low : ℕ) : Type 0 where
  pub leaf : Leaf
  pub there : Contains nodes (node.Leaf leaf)
  pub reached : leaf.goal ≡ low

-- the lesser of a limit and the least goal of the leaves among nodes
pub record IsLowest (limit : ℕ) (nodes : List Node) (low : ℕ) : Type 0 where
  pub bound : All (HasGoal low) nodes
  pub reached : (low ≡ limit) ⊎ ((low < limit) × HasLeafAt nodes low)

-- nothing of a tree with this bound is left at a goal of the search: there is no plan, or the best one is within the gap
abbrev pub IsExhausted : Instance → ℕ → Option FoundPlan → ℕ → Type 0
IsExhausted i gap None low = i.cluster.horizon + 1 ≤ low
IsExhausted i gap (Some best) low = best.delay ≤ low + gap

-- how much a tree shows was worked where a search ended for a reason
abbrev pub IsReason : Instance → Options → ℕ → Option FoundPlan → Cert → Why → Type 0
IsReason i options gap best cert Budget = options.budget ≤ worked_at (worked_goal i gap best) cert.tree
IsReason i options gap best cert Memory = branches cert.tree < options.budget
IsReason i options gap best cert CalledOff = branches cert.tree < options.budget
IsReason i options gap best cert Gap = IsExhausted i gap best cert.low
IsReason i options gap best cert Part = ⊥

-- The tree of a search at its end, in the version of the instance's answers: it proves a bound of at most the delay that had to be beaten, and no leaf's
-- goal is below the lesser of that and the path bound.
pub record IsEndTree (i : Instance) (options : Options) (gap : ℕ) (why : Why) (best : Option FoundPlan) (cert : Cert) : Type 0 where
  pub proves : Proves i cert
  pub version : cert.version ≡ answer_version i
  pub within : branches cert.tree ≤ options.budget
  pub most : cert.low ≤ limit_of i best
  pub path : (bound : ℕ) → IsPathBound i bound → All (HasGoal (min bound (limit_of i best))) (preorder cert.tree)
  pub reason : IsReason i options gap best cert why

-- What a certificate's tree says of the best plan, where a search ended for a reason: its bound is the least goal of its leaves, or the delay that had to be
-- beaten where that is less.
pub record IsEndAnswer (i : Instance) (gap : ℕ) (why : Why) (best : Option FoundPlan) (cert : Cert) (outcome : Outcome) : Type 0 where
  pub low : ℕ
  pub lowest : IsLowest (limit_of i best) (preorder cert.tree) low
  pub cause : Why
  pub told : IsCauseTold why gap low best cause
  pub is : IsAnswerOf i cause best low (from_low low cert) outcome
