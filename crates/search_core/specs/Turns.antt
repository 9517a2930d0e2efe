-- What each event needs of its worker, and what it does to it. Own profile.
use Rattle.std.specs.Prelude.{◌≡◌, ◌≢◌, ℕ, ◌<◌, ◌≤◌, List, [], ◌∷◌, ◌++◌}
use Rattle.ttp_model.specs.Kinds.{HasOwnCount}
use Rattle.certificate.specs.Branch.{branch_of}
use Rattle.certificate.specs.declared.node.Node.{Node}
use Rattle.certificate.specs.declared.node.Node.TheVariants as node
use Rattle.search_trees.specs.Name.{Name, child_names}
use Rattle.search_core.specs.declared.event.Worked.{Worked}
use Rattle.search_core.specs.declared.event.Worked.TheVariants.{Split, Closed, Found}
use Rattle.search_core.specs.declared.hand.Hand.{Hand}
use Rattle.search_core.specs.declared.hand.Hand.TheVariants.{Empty, Task, Children, Value}
use Rattle.search_core.specs.declared.reply.Illegal.{Illegal}
use Rattle.search_core.specs.declared.reply.Illegal.TheVariants.{NoSuchWorker, WrongHand, EmptyDeque, Misfit, OutOfMemory}
use Rattle.search_core.specs.World.{Worker, held_names}

-- what a hand may be asked to be
abbrev pub HasTask : Hand → Type 0
HasTask hand = (name : Name) × (hand ≡ Task name)

abbrev pub HasChildren : Hand → Type 0
HasChildren hand = (names : List Name) × (hand ≡ Children names)

abbrev pub HasValue : Hand → Type 0
HasValue hand = (v : ℕ) × (hand ≡ Value v)

-- a task, or children
abbrev pub HasNames : Hand → Type 0
HasNames hand = held_names hand ≢ []

-- The first that fails of: the hand is as the event asks, the deque isn't empty, and the count or goal fits.
-- Memory is refused only where all three hold.
abbrev pub IsUnmet : (hand deque fit : Type 0) → Illegal → Type 0
IsUnmet hand deque fit NoSuchWorker = ⊥
IsUnmet hand deque fit WrongHand = ¬ hand
IsUnmet hand deque fit EmptyDeque = hand × ¬ deque
IsUnmet hand deque fit Misfit = hand × deque × ¬ fit
IsUnmet hand deque fit OutOfMemory = hand × deque × fit

-- Pop: with an empty hand, the deque's last name goes to the hand.
pub record Pops (s : Worker) (name : Name) (t : Worker) : Type 0 where
  pub front : List Name
  pub hand : s.hand ≡ Empty
  pub deque : s.deque ≡ front ++ name ∷ []
  pub after : t ≡ record s { deque = front; hand = Task name }

-- a deque's first name is taken by another worker
pub record LosesFirst (s : Worker) (name : Name) (t : Worker) : Type 0 where
  pub rest : List Name
  pub deque : s.deque ≡ name ∷ rest
  pub after : t ≡ record s { deque = rest }

-- with an empty hand, a name goes to the hand
pub record TakesName (s : Worker) (name : Name) (t : Worker) : Type 0 where
  pub hand : s.hand ≡ Empty
  pub after : t ≡ record s { hand = Task name }

-- Look: with a task in hand, the best delay is seen.
pub record Looks (s : Worker) (best : ℕ) (t : Worker) : Type 0 where
  pub hand : HasTask s.hand
  pub after : t ≡ record s { seen = best }

-- the node that work makes
abbrev pub node_made : Worked → Node
node_made (Split kind k) = node.Branch (branch_of kind k)
node_made (Closed leaf) = node.Leaf leaf
node_made (Found leaf v) = node.Leaf leaf

-- A split has children, as many as its kind says; a closed leaf has the goal that was seen; a found
-- delay is at most the leaf's goal, which is below what was seen.
abbrev pub IsFitting : ℕ → Worked → Type 0
IsFitting seen (Split kind k) = (1 ≤ k) × HasOwnCount kind k
IsFitting seen (Closed leaf) = leaf.goal ≡ seen
IsFitting seen (Found leaf v) = (v ≤ leaf.goal) × (leaf.goal < seen)

-- what the hand holds after work on a task of this name
abbrev pub hand_after : Name → Worked → Hand
hand_after name (Split kind k) = Children (child_names name k)
hand_after name (Closed leaf) = Empty
hand_after name (Found leaf v) = Value v

-- Work: the task in hand becomes a piece.
pub record Works (s : Worker) (worked : Worked) (t : Worker) : Type 0 where
  pub name : Name
  pub hand : s.hand ≡ Task name
  pub fits : IsFitting s.seen worked
  pub after : t ≡ record s {
    hand = hand_after name worked;
    pieces = s.pieces ++ record { name = name; node = node_made worked } ∷ [];
  }

-- the hand with these children: empty after the last
abbrev pub children_left : List Name → Hand
children_left [] = Empty
children_left (name ∷ names) = Children (name ∷ names)

-- Push: the first child in hand goes to the back of the deque.
pub record Pushes (s : Worker) (t : Worker) : Type 0 where
  pub name : Name
  pub others : List Name
  pub hand : s.hand ≡ Children (name ∷ others)
  pub after : t ≡ record s { deque = s.deque ++ name ∷ []; hand = children_left others }

-- Offer: the value in hand is handed on.
pub record Offers (s : Worker) (v : ℕ) (t : Worker) : Type 0 where
  pub hand : s.hand ≡ Value v
  pub after : t ≡ record s { hand = Empty }

-- Rest: the hand's one or first name is left.
pub record Rests (s : Worker) (t : Worker) : Type 0 where
  pub name : Name
  pub others : List Name
  pub hand : held_names s.hand ≡ name ∷ others
  pub after : t ≡ record s { left = s.left ++ name ∷ []; hand = children_left others }
