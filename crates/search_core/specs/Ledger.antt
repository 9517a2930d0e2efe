-- What was done, event by event, and what each worker took, pushed, and still holds or left. Own profile.
use Rattle.std.specs.Prelude.{ℕ, ◌==◌, if◌then◌else◌, List, [], ◌∷◌, ◌++◌, take}
use Rattle.std.specs.List.{flat_map}
use Rattle.std.specs.List.Sorted.{IsPermutation}
use Rattle.search_trees.specs.Name.{Name}
use Rattle.search_trees.specs.Pieces.{names_of, all_below}
use Rattle.search_trees.specs.Account.{IsReportOf}
use Rattle.search_core.specs.declared.event.Event.{Event}
use Rattle.search_core.specs.declared.event.Event.TheVariants.{Pop, Steal, Look, Work, Push, Offer, Rest}
use Rattle.search_core.specs.declared.reply.Reply.{Reply}
use Rattle.search_core.specs.declared.reply.Reply.TheVariants as reply
use Rattle.search_core.specs.World.{Worker, World, worker_at, held_names}
use Rattle.search_core.specs.Steps.{Step}

-- an event that was done, with the moment before it and its reply
pub record Done : Type 0 where
  pub before : World
  pub event : Event
  pub reply : Reply

-- from one moment to a later one, all that was done between them
pub data Goes : World → List Done → World → Type 0 where
  none : (m : World) → Goes m [] m
  more : (m : World) (event : Event) (reply : Reply) (n : World) → Step m event n reply
      → (dones : List Done) (last : World) → Goes n dones last
      → Goes m (record { before = m; event = event; reply = reply } ∷ dones) last

-- the worker that does an event
abbrev pub worker_of : Event → ℕ
worker_of (Pop w) = w
worker_of (Steal w v) = w
worker_of (Look w) = w
worker_of (Work w worked) = w
worker_of (Push w) = w
worker_of (Offer w) = w
worker_of (Rest w) = w

-- the name in a reply: one that was popped or stolen
abbrev pub name_told : Reply → List Name
name_told (reply.Name name) = name ∷ []
name_told (reply.Best d) = []
name_told reply.Done = []

-- the name that an event pushes
abbrev pub name_pushed : World → Event → List Name
name_pushed m (Pop w) = []
name_pushed m (Steal w v) = []
name_pushed m (Look w) = []
name_pushed m (Work w worked) = []
name_pushed m (Push w) = take 1 (held_names (worker_at m w).hand)
name_pushed m (Offer w) = []
name_pushed m (Rest w) = []

-- these names where worker w does the event; none where another does
abbrev pub of_worker : ℕ → Event → List Name → List Name
of_worker w event names = if worker_of event == w then names else []

-- the names that a worker popped or stole, and those that it pushed
abbrev pub taken : ℕ → List Done → List Name
taken w dones = flat_map (λ d. of_worker w d.event (name_told d.reply)) dones

abbrev pub pushed : ℕ → List Done → List Name
pushed w dones = flat_map (λ d. of_worker w d.event (name_pushed d.before d.event)) dones

-- A worker's account: the names that it took are those of its pieces and some others, and those below
-- its pieces were pushed, but for some. These others and these some are together what it holds or left.
pub record IsAccount (w : ℕ) (dones : List Done) (s : Worker) : Type 0 where
  pub held : List Name
  pub unpushed : List Name
  pub rest : IsPermutation (held ++ unpushed) (held_names s.hand ++ s.left)
  pub report : IsReportOf Name (taken w dones) (pushed w dones) (names_of s.pieces) (all_below s.pieces) held unpushed
