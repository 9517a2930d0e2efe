-- Tasks that were worked, and those that their branches gave. Own profile.
use Rattle.std.specs.Prelude.{◌≡◌, ℕ, List, [], ◌∷◌, ◌++◌, map}
use Rattle.std.specs.List.{flat_map, range_with_len}
use Rattle.ttp_model.specs.Instance.{Instance}
use Rattle.tt_choice.specs.declared.decision.Decision.{Decision}
use Rattle.tt_choice.specs.Decisions.{decision_of}
use Rattle.certificate.specs.declared.node.Node.{Node}
use Rattle.certificate.specs.declared.node.Node.TheVariants as node
use Rattle.certificate.specs.Trees.{children}
use Rattle.branch_tree.specs.piece.Piece.{Piece}
use Rattle.branch_tree.specs.Name.{child_name}
use Rattle.branch_tree.specs.Task.{Task, choice_of, IsTask}
use Rattle.branch_tree.specs.Pieces.{IsRight, IsSharp}

-- a task that was worked, and the piece that it became
pub record Turn : Type 0 where
  pub task : Task
  pub piece : Piece

-- the piece has the task's name, is right for its choice, and is sharp where it is a leaf
pub record IsTurn (i : Instance) (turn : Turn) : Type 0 where
  pub of : IsTask i turn.task
  pub name : turn.piece.name ≡ turn.task.name
  pub right : IsRight i (choice_of i turn.task) turn.piece.node
  pub sharp : IsSharp i (choice_of i turn.task) turn.piece.node

-- the decisions that lead to a child of a task's node: one more below a branch; the same below a leaf
abbrev pub decisions_below : Instance → Task → Node → ℕ → List Decision
decisions_below i t (node.Branch branch) k = t.decisions ++ decision_of i (choice_of i t) branch.kind k ∷ []
decisions_below i t (node.Leaf leaf) k = t.decisions

-- the task of a child
abbrev pub child_task : Instance → Turn → ℕ → Task
child_task i turn k = record { name = child_name turn.task.name k; decisions = decisions_below i turn.task turn.piece.node k }

-- the tasks of all children, in order; none of a leaf
abbrev pub born : Instance → Turn → List Task
born i turn = map (child_task i turn) (range_with_len 0 (children turn.piece.node))

-- the tasks of turns, their pieces, and what their branches gave
abbrev pub tasks_of : List Turn → List Task
tasks_of turns = map (λ (turn : Turn). turn.task) turns

abbrev pub pieces_of : List Turn → List Piece
pieces_of turns = map (λ (turn : Turn). turn.piece) turns

abbrev pub all_born : Instance → List Turn → List Task
all_born i turns = flat_map (born i) turns
