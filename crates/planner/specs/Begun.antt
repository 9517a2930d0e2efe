-- A search that goes on where a certificate ends, and what of the certificate's tree it has.
use Rattle.std.specs.Prelude.{◌≡◌, ℕ, ◌+◌, ◌<◌, ◌≤◌, List, [], ◌∷◌, ◌++◌, length, map, filter, Bool, false, not, nat_lt, Option}
use Rattle.ttp_model.specs.declared.step.Leaf.{Leaf}
use Rattle.ttp_model.specs.Instance.{Instance}
use Rattle.tt_choice.specs.Branches.{IsBranch}
use Rattle.tt_choice.specs.Sizes.{size_left, Halves}
use Rattle.tt_infer.specs.Leaves.{ClosesLeaf}
use Rattle.certificate.specs.declared.branch.Branch.{Branch}
use Rattle.certificate.specs.declared.node.Node.{Node}
use Rattle.certificate.specs.declared.node.Node.TheVariants as node
use Rattle.certificate.specs.Limits.{most_branches_above}
use Rattle.certificate.specs.Lines.{total_lines}
use Rattle.certificate.specs.Trees.{preorder}
use Rattle.certificate.specs.Cert.{Cert}
use Rattle.tree_check.specs.Faults.{told_line}
use Rattle.search_workers.specs.piece.Piece.{Piece}
use Rattle.search_workers.specs.Task.{Task, IsTask, choice_of}
use Rattle.search_workers.specs.declared.aims.Aims.{Aims}
use Rattle.search_workers.specs.declared.found.FoundPlan.{FoundPlan}
use Rattle.search_workers.specs.Searching.{aim_of, IsSearching}
use Rattle.planner.specs.declared.begun.Begun.{Begun}
use Rattle.planner.specs.declared.fault.BeginFault.{BeginFault}
use Rattle.planner.specs.declared.fault.BeginFault.TheVariants.{TooDeep, OutOfMemory}

-- a leaf is open again where its goal is below the one at which the search works
abbrev pub is_open : ℕ → Node → Bool
is_open aim (node.Branch branch) = false
is_open aim (node.Leaf leaf) = nat_lt leaf.goal aim

-- all other nodes stay
abbrev pub stays : ℕ → Node → Bool
stays aim one = not (is_open aim one)

-- a node, but for the steps of a leaf
abbrev pub outline : Node → Node
outline (node.Branch branch) = node.Branch branch
outline (node.Leaf leaf) = node.Leaf (record { goal = leaf.goal; steps = [] })

abbrev pub nodes_of : List Piece → List Node
nodes_of pieces = map (λ (piece : Piece). piece.node) pieces

-- the leaf that stands where a task begins: it closes the task's choice, at a goal from the bound on
pub record IsLeafOf (i : Instance) (low : ℕ) (task : Task) (piece : Piece) : Type 0 where
  pub name : piece.name ≡ task.name
  pub leaf : Leaf
  pub is : piece.node ≡ node.Leaf leaf
  pub closes : ClosesLeaf i (choice_of i task) leaf
  pub above : low ≤ leaf.goal

-- a leaf for each task, in order
abbrev pub AreLeavesOf : Instance → ℕ → List Task → List Piece → Type 0
AreLeavesOf i low [] [] = Unit {0}
AreLeavesOf i low [] (piece ∷ pieces) = ⊥
AreLeavesOf i low (task ∷ tasks) [] = ⊥
AreLeavesOf i low (task ∷ tasks) (piece ∷ pieces) = IsLeafOf i low task piece × AreLeavesOf i low tasks pieces

-- It is a search of the instance, which has this best plan. Its pieces are the certificate's nodes that stay, but for steps of leaves; its tasks begin
-- where the others are, all in their order.
pub record IsBegun (i : Instance) (aims : Aims) (best : Option FoundPlan) (cert : Cert) (begun : Begun) : Type 0 where
  pub searching : IsSearching i aims begun.search.pieces.items begun.search.tasks.items begun.search.best
  pub best_is : begun.search.best ≡ best
  pub kept : map outline (nodes_of begun.search.pieces.items) ≡ map outline (filter (stays (aim_of i aims best)) (preorder cert.tree))
  pub open_leaves : nodes_of begun.leaves.items ≡ filter (is_open (aim_of i aims best)) (preorder cert.tree)
  pub leaves : AreLeavesOf i cert.low begun.search.tasks.items begun.leaves.items

-- A branch that doesn't halve what it cuts, with as many branches above its children as a search below them could still need.
pub record IsDeep (i : Instance) (task : Task) (branch : Branch) : Type 0 where
  pub stands : IsTask i task
  pub right : IsBranch i (choice_of i task) branch.kind branch.children
  pub uneven : ¬ Halves (choice_of i task) branch.kind
  pub full : most_branches_above < length task.name + 1 + size_left i (choice_of i task)

-- at this line of its text the certificate has such a branch
pub record IsTooDeep (i : Instance) (cert : Cert) (line : ℕ) : Type 0 where
  pub before : List Node
  pub branch : Branch
  pub behind : List Node
  pub nodes : preorder cert.tree ≡ before ++ node.Branch branch ∷ behind
  pub line_is : line ≡ told_line (3 + total_lines before)
  pub task : Task
  pub deep : IsDeep i task branch

-- why a search doesn't begin with a certificate; nothing is said of a want of memory
abbrev pub IsBeginFault : Instance → Cert → BeginFault → Type 0
IsBeginFault i cert (TooDeep line) = IsTooDeep i cert line
IsBeginFault i cert OutOfMemory = Unit {0}
