-- What is known of delays at a moment of a search, and which events are honest about an instance. Own profile.
use Rattle.std.specs.Prelude.{◌≡◌, ℕ, ◌+◌, ◌<◌, ◌≤◌, ◌⊎◌, min, List, [], ◌∷◌, Contains}
use Rattle.ttp_model.specs.declared.plan.Plan.{Plan}
use Rattle.ttp_model.specs.declared.step.Leaf.{Leaf}
use Rattle.ttp_model.specs.Instance.{Instance}
use Rattle.ttp_model.specs.Plans.{IsValid}
use Rattle.ttp_model.specs.Delays.{delay, IsLeastDelay, HasNoPlan}
use Rattle.ttp_model.specs.Moves.{IsSettled}
use Rattle.tt_choice.specs.Choice.{Choice, IsIn}
use Rattle.certificate.specs.declared.node.Node.TheVariants as node
use Rattle.search_trees.specs.declared.piece.Piece.{Piece}
use Rattle.search_trees.specs.Name.{Name}
use Rattle.search_trees.specs.Pieces.{StandsAt, IsRight}
use Rattle.search_core.specs.declared.event.Event.{Event}
use Rattle.search_core.specs.declared.event.Event.TheVariants.{Pop, Steal, Look, Work, Push, Offer, Rest}
use Rattle.search_core.specs.declared.event.Worked.{Worked}
use Rattle.search_core.specs.declared.event.Worked.TheVariants.{Split, Closed, Found}
use Rattle.search_core.specs.declared.reply.Reply.{Reply}
use Rattle.search_core.specs.declared.hand.Hand.{Hand}
use Rattle.search_core.specs.declared.hand.Hand.TheVariants.{Empty, Task, Children, Value}
use Rattle.search_core.specs.World.{Worker, World, worker_at, open_names, all_pieces}
use Rattle.search_core.specs.Turns.{node_made}
use Rattle.search_core.specs.Steps.{Step}

-- the lesser of a delay and the value in a hand, where there is one
abbrev pub with_hand : Hand → ℕ → ℕ
with_hand Empty known = known
with_hand (Task name) known = known
with_hand (Children names) known = known
with_hand (Value v) known = min v known

-- the least of a delay and all values in hands
abbrev pub least_with : ℕ → List Worker → ℕ
least_with best [] = best
least_with best (s ∷ seats) = with_hand s.hand (least_with best seats)

-- the delay that is known: the least of the best delay and all values in hands
abbrev pub known : World → ℕ
known m = least_with m.best m.seats

-- some valid plan has this delay
pub record IsDelay (i : Instance) (d : ℕ) : Type 0 where
  pub plan : Plan
  pub valid : IsValid i plan
  pub reached : delay i plan ≡ d

-- what a search may begin with: one past the horizon, or the delay of a valid plan
abbrev pub IsTop : Instance → ℕ → Type 0
IsTop i top = (top ≡ i.cluster.horizon + 1) ⊎ IsDelay i top

-- a value that is found is the delay of a valid plan
abbrev pub HasHonestValue : Instance → Worked → Type 0
HasHonestValue i (Split kind k) = Unit {0}
HasHonestValue i (Closed leaf) = Unit {0}
HasHonestValue i (Found leaf v) = IsDelay i v

-- Work is honest where its node is right for the choice that stands at the task's name, by the
-- pieces made so far, and its value is a delay. All else that workers do is honest.
abbrev pub IsHonest : Instance → World → Event → Type 0
IsHonest i m (Pop w) = Unit {0}
IsHonest i m (Steal w v) = Unit {0}
IsHonest i m (Look w) = Unit {0}
IsHonest i m (Work w worked) = HasHonestValue i worked
    × ((name : Name) (c : Choice) → (worker_at m w).hand ≡ Task name → StandsAt i (all_pieces m) name c → IsRight i c (node_made worked))
IsHonest i m (Push w) = Unit {0}
IsHonest i m (Offer w) = Unit {0}
IsHonest i m (Rest w) = Unit {0}

-- each event that is done is honest when it comes
abbrev pub AreHonest : Instance → World → List Event → Type 0
AreHonest i m [] = Unit {0}
AreHonest i m (event ∷ events) = (n : World) (reply : Reply) → Step m event n reply → IsHonest i m event × AreHonest i n events

-- A settled plan stands open: it is in the choice that stands at an open name.
pub record IsOpenPlan (i : Instance) (m : World) (plan : Plan) : Type 0 where
  pub name : Name
  pub choice : Choice
  pub is_open : Contains (open_names m) name
  pub stands : StandsAt i (all_pieces m) name choice
  pub within : IsIn i choice plan

-- What a search knows at a moment: no leaf has a goal below the known delay; that is a delay, or what
-- the search began with; and for each valid plan below it a settled one with no larger delay stands
-- open. With no open name it is the least delay, or no plan is valid.
pub record Bounds (i : Instance) (top : ℕ) (m : World) : Type 0 where
  pub leaves : (piece : Piece) (leaf : Leaf) → Contains (all_pieces m) piece → piece.node ≡ node.Leaf leaf → known m ≤ leaf.goal
  pub reached : (known m ≡ top) ⊎ IsDelay i (known m)
  pub cover : (plan : Plan) → IsValid i plan → delay i plan < known m
      → (settled : Plan) × IsSettled i settled × (delay i settled ≤ delay i plan) × IsOpenPlan i m settled
  pub none_open : open_names m ≡ [] → IsLeastDelay i (known m) ⊎ HasNoPlan i
