-- The table of events: what each does to the core, and why one is refused. Own profile.
use Rattle.std.specs.Prelude.{◌≡◌, ◌≢◌, ℕ, ◌<◌, min, List, [], ◌∷◌, length, Result, Ok, Err}
use Rattle.search_trees.specs.Name.{Name}
use Rattle.search_core.specs.declared.event.Event.{Event}
use Rattle.search_core.specs.declared.event.Event.TheVariants.{Pop, Steal, Look, Work, Push, Offer, Rest}
use Rattle.search_core.specs.declared.event.Worked.{Worked}
use Rattle.search_core.specs.declared.reply.Reply.{Reply}
use Rattle.search_core.specs.declared.reply.Reply.TheVariants as reply
use Rattle.search_core.specs.declared.reply.Illegal.{Illegal}
use Rattle.search_core.specs.declared.reply.Illegal.TheVariants.{NoSuchWorker, WrongHand, EmptyDeque, Misfit, OutOfMemory}
use Rattle.search_core.specs.declared.hand.Hand.TheVariants.{Empty}
use Rattle.search_core.specs.World.{Worker, World, worker_at, put}
use Rattle.search_core.specs.Turns.{Pops, LosesFirst, TakesName, Looks, Works, Pushes, Offers, Rests, IsUnmet, HasTask, HasChildren, HasValue, HasNames, IsFitting}

abbrev pub IsThere : World → ℕ → Type 0
IsThere m w = w < length m.seats

-- One event, done: from one moment to the next, with its reply.
pub data Step (m : World) : Event → World → Reply → Type 0 where
  pops : (w : ℕ) (name : Name) (t : Worker) → IsThere m w
      → Pops (worker_at m w) name t
      → Step m (Pop w) (put m w t) (reply.Name name)
  steals : (w v : ℕ) (name : Name) (t u : Worker) → IsThere m w → IsThere m v → w ≢ v
      → TakesName (worker_at m w) name t → LosesFirst (worker_at m v) name u
      → Step m (Steal w v) (put (put m v u) w t) (reply.Name name)
  looks : (w : ℕ) (t : Worker) → IsThere m w
      → Looks (worker_at m w) m.best t
      → Step m (Look w) (put m w t) (reply.Best m.best)
  works : (w : ℕ) (worked : Worked) (t : Worker) → IsThere m w
      → Works (worker_at m w) worked t
      → Step m (Work w worked) (put m w t) reply.Done
  pushes : (w : ℕ) (t : Worker) → IsThere m w
      → Pushes (worker_at m w) t
      → Step m (Push w) (put m w t) reply.Done
  offers : (w : ℕ) (v : ℕ) (t : Worker) → IsThere m w
      → Offers (worker_at m w) v t
      → Step m (Offer w) (put (record m { best = min m.best v }) w t) (reply.Best (min m.best v))
  rests : (w : ℕ) (t : Worker) → IsThere m w
      → Rests (worker_at m w) t
      → Step m (Rest w) (put m w t) reply.Done

-- the workers that an event names are there, and none steals from itself
abbrev pub HasWorkers : World → Event → Type 0
HasWorkers m (Pop w) = IsThere m w
HasWorkers m (Steal w v) = IsThere m w × IsThere m v × (w ≢ v)
HasWorkers m (Look w) = IsThere m w
HasWorkers m (Work w worked) = IsThere m w
HasWorkers m (Push w) = IsThere m w
HasWorkers m (Offer w) = IsThere m w
HasWorkers m (Rest w) = IsThere m w

-- the hand is as the event asks
abbrev pub HasHand : World → Event → Type 0
HasHand m (Pop w) = (worker_at m w).hand ≡ Empty
HasHand m (Steal w v) = (worker_at m w).hand ≡ Empty
HasHand m (Look w) = HasTask (worker_at m w).hand
HasHand m (Work w worked) = HasTask (worker_at m w).hand
HasHand m (Push w) = HasChildren (worker_at m w).hand
HasHand m (Offer w) = HasValue (worker_at m w).hand
HasHand m (Rest w) = HasNames (worker_at m w).hand

-- the deque that an event takes a name from has one
abbrev pub HasName : World → Event → Type 0
HasName m (Pop w) = (worker_at m w).deque ≢ []
HasName m (Steal w v) = (worker_at m v).deque ≢ []
HasName m (Look w) = Unit {0}
HasName m (Work w worked) = Unit {0}
HasName m (Push w) = Unit {0}
HasName m (Offer w) = Unit {0}
HasName m (Rest w) = Unit {0}

-- the count or goal fits
abbrev pub HasFit : World → Event → Type 0
HasFit m (Pop w) = Unit {0}
HasFit m (Steal w v) = Unit {0}
HasFit m (Look w) = Unit {0}
HasFit m (Work w worked) = IsFitting (worker_at m w).seen worked
HasFit m (Push w) = Unit {0}
HasFit m (Offer w) = Unit {0}
HasFit m (Rest w) = Unit {0}

-- the event takes memory: a look and an offer take none
abbrev pub TakesMemory : Event → Type 0
TakesMemory (Pop w) = Unit {0}
TakesMemory (Steal w v) = Unit {0}
TakesMemory (Look w) = ⊥
TakesMemory (Work w worked) = Unit {0}
TakesMemory (Push w) = Unit {0}
TakesMemory (Offer w) = ⊥
TakesMemory (Rest w) = Unit {0}

-- the first of the five causes that holds
abbrev pub IsIllegal : World → Event → Illegal → Type 0
IsIllegal m event NoSuchWorker = ¬ HasWorkers m event
IsIllegal m event WrongHand = HasWorkers m event × IsUnmet (HasHand m event) (HasName m event) (HasFit m event) WrongHand
IsIllegal m event EmptyDeque = HasWorkers m event × IsUnmet (HasHand m event) (HasName m event) (HasFit m event) EmptyDeque
IsIllegal m event Misfit = HasWorkers m event × IsUnmet (HasHand m event) (HasName m event) (HasFit m event) Misfit
IsIllegal m event OutOfMemory = TakesMemory event × HasWorkers m event × IsUnmet (HasHand m event) (HasName m event) (HasFit m event) OutOfMemory

-- an event is done, or refused with nothing changed
abbrev pub Answers : World → Event → Result Reply Illegal → World → Type 0
Answers m event (Ok reply) n = Step m event n reply
Answers m event (Err fault) n = (n ≡ m) × IsIllegal m event fault

-- Events one after another, up to the first that is refused.
pub data Runs : World → List Event → Result Unit Illegal → World → Type 0 where
  ends : (m : World) → Runs m [] (Ok tt) m
  goes : (m : World) (event : Event) (reply : Reply) (n : World)
      → Step m event n reply → (events : List Event) (result : Result Unit Illegal) (last : World)
      → Runs n events result last → Runs m (event ∷ events) result last
  stops : (m : World) (event : Event) (fault : Illegal) (events : List Event)
      → IsIllegal m event fault → Runs m (event ∷ events) (Err fault) m
