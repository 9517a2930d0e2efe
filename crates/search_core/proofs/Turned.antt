-- What a worker does, as a step of the core.
use Rattle.std.proofs.Common.{Result, zero, suc, ◌≡◌, ◌≢◌, ℕ, ◌+◌, ◌<◌, ◌-◌, min, List, [], ◌∷◌, ◌++◌, length, get_or, set, map, drop, replicate, ◌≤◌, refl, sym, ap, subst, ◌∙◌, arith, Ok, Err}
use Rattle.std.specs.List.{range_with_len}
use Rattle.std.proofs.lemmas.List.{get_or_default, set-get_or, get_or-set_other}
use Rattle.search_trees.specs.Name.{Name, root_name, child_name}
use Rattle.search_core.specs.declared.event.Event.{Event}
use Rattle.search_core.specs.declared.event.Event.TheVariants.{Pop, Steal, Look, Work, Push, Offer, Rest}
use Rattle.search_core.specs.declared.event.Worked.{Worked}
use Rattle.search_core.specs.declared.reply.Reply.{Reply}
use Rattle.search_core.specs.declared.reply.Reply.TheVariants as reply
use Rattle.search_core.specs.declared.reply.Illegal.{Illegal}
use Rattle.search_core.specs.declared.reply.Illegal.TheVariants.{NoSuchWorker, WrongHand, EmptyDeque, Misfit, OutOfMemory}
use Rattle.search_core.specs.declared.hand.Hand.TheVariants.{Empty}
use Rattle.search_core.specs.World.{Worker, World, idle_seat, worker_at, put, start}
use Rattle.search_core.specs.Turns.{Pops, LosesFirst, TakesName, Looks, Works, Pushes, Offers, Rests, IsUnmet, HasTask, HasChildren, HasValue, HasNames, IsFitting}
use Rattle.search_core.specs.Steps.{Step, Answers, Runs, HasWorkers, HasHand, HasName, HasFit, TakesMemory, IsIllegal}
use Rattle.search_core.specs.Steps.Step.{pops, steals, looks, works, pushes, offers, rests}
use Rattle.search_core.specs.Steps.Runs.{ends, goes, stops}

-- the worker that an index gave
pub seat_is : (m : World) (w : ℕ) (s : Worker) → w < length m.seats → s ≡ get_or m.seats w s → s ≡ worker_at m w
seat_is m w s there is = is ∙ get_or_default m.seats w s (idle_seat 0) there

-- a worker that is as it was changes nothing
pub put_same : (m : World) (w : ℕ) (s t : Worker) → s ≡ get_or m.seats w s → t ≡ s → put m w t ≡ m
put_same m w s t is same =
    let e : set m.seats w t ≡ m.seats = ap (λ x. set m.seats w x) (same ∙ is) ∙ set-get_or m.seats w s in
    ap (λ seats. let n : World = record { best = m.best; seats = seats } in n) e

pub refused_at : (m : World) (event : Event) (fault : Illegal) → (fault ≡ OutOfMemory → TakesMemory event) → HasWorkers m event
    → IsUnmet (HasHand m event) (HasName m event) (HasFit m event) fault → IsIllegal m event fault
refused_at m event NoSuchWorker memory there h = absurd h
refused_at m event WrongHand memory there h = (there, h)
refused_at m event EmptyDeque memory there h = (there, h)
refused_at m event Misfit memory there h = (there, h)
refused_at m event OutOfMemory memory there h = (memory refl, there, h)

pub popped : (m : World) (w : ℕ) (s t : Worker) (name : Name) → w < length m.seats → s ≡ get_or m.seats w s → Pops s name t
    → Step m (Pop w) (put m w t) (reply.Name name)
popped m w s t name there is h =
    let P : Worker → Type 0 = λ x. Pops x name t in pops w name t there (subst P (seat_is m w s there is) h)

pub pop_refused : (m : World) (w : ℕ) (s t : Worker) (fault : Illegal) → w < length m.seats → s ≡ get_or m.seats w s → t ≡ s
    → IsUnmet (s.hand ≡ Empty) (s.deque ≢ []) (Unit {0}) fault → Answers m (Pop w) (Err fault) (put m w t)
pop_refused m w s t fault there is same h =
    let P : Worker → Type 0 = λ x. IsUnmet (x.hand ≡ Empty) (x.deque ≢ []) (Unit {0}) fault in
    (put_same m w s t is same, refused_at m (Pop w) fault (λ _. tt) there (subst P (seat_is m w s there is) h))

pub looked : (m : World) (w : ℕ) (s t : Worker) → w < length m.seats → s ≡ get_or m.seats w s → Looks s m.best t
    → Step m (Look w) (put m w t) (reply.Best m.best)
looked m w s t there is h =
    let P : Worker → Type 0 = λ x. Looks x m.best t in looks w t there (subst P (seat_is m w s there is) h)

pub look_refused : (m : World) (w : ℕ) (s t : Worker) (fault : Illegal) → w < length m.seats → s ≡ get_or m.seats w s → t ≡ s → fault ≢ OutOfMemory
    → IsUnmet (HasTask s.hand) (Unit {0}) (Unit {0}) fault → Answers m (Look w) (Err fault) (put m w t)
look_refused m w s t fault there is same none h =
    let P : Worker → Type 0 = λ x. IsUnmet (HasTask x.hand) (Unit {0}) (Unit {0}) fault in
    (put_same m w s t is same, refused_at m (Look w) fault (λ memory. absurd (none memory)) there (subst P (seat_is m w s there is) h))

pub worked_on : (m : World) (w : ℕ) (s t : Worker) (worked : Worked) → w < length m.seats → s ≡ get_or m.seats w s → Works s worked t
    → Step m (Work w worked) (put m w t) reply.Done
worked_on m w s t worked there is h =
    let P : Worker → Type 0 = λ x. Works x worked t in works w worked t there (subst P (seat_is m w s there is) h)

pub work_refused : (m : World) (w : ℕ) (s t : Worker) (worked : Worked) (fault : Illegal) → w < length m.seats → s ≡ get_or m.seats w s → t ≡ s
    → IsUnmet (HasTask s.hand) (Unit {0}) (IsFitting s.seen worked) fault → Answers m (Work w worked) (Err fault) (put m w t)
work_refused m w s t worked fault there is same h =
    let P : Worker → Type 0 = λ x. IsUnmet (HasTask x.hand) (Unit {0}) (IsFitting x.seen worked) fault in
    (put_same m w s t is same, refused_at m (Work w worked) fault (λ _. tt) there (subst P (seat_is m w s there is) h))

pub pushed_on : (m : World) (w : ℕ) (s t : Worker) → w < length m.seats → s ≡ get_or m.seats w s → Pushes s t → Step m (Push w) (put m w t) reply.Done
pushed_on m w s t there is h =
    let P : Worker → Type 0 = λ x. Pushes x t in pushes w t there (subst P (seat_is m w s there is) h)

pub push_refused : (m : World) (w : ℕ) (s t : Worker) (fault : Illegal) → w < length m.seats → s ≡ get_or m.seats w s → t ≡ s
    → IsUnmet (HasChildren s.hand) (Unit {0}) (Unit {0}) fault → Answers m (Push w) (Err fault) (put m w t)
push_refused m w s t fault there is same h =
    let P : Worker → Type 0 = λ x. IsUnmet (HasChildren x.hand) (Unit {0}) (Unit {0}) fault in
    (put_same m w s t is same, refused_at m (Push w) fault (λ _. tt) there (subst P (seat_is m w s there is) h))

pub offered : (m : World) (w : ℕ) (s t : Worker) (v least : ℕ) → w < length m.seats → s ≡ get_or m.seats w s → Offers s v t → least ≡ min m.best v
    → Step m (Offer w) (put (record m { best = least }) w t) (reply.Best least)
offered m w s t v least there is h e =
    let P : Worker → Type 0 = λ x. Offers x v t in
    let Q : ℕ → Type 0 = λ b. Step m (Offer w) (put (record m { best = b }) w t) (reply.Best b) in
    subst Q (sym e) (offers w v t there (subst P (seat_is m w s there is) h))

pub offer_refused : (m : World) (w : ℕ) (s t : Worker) (fault : Illegal) → w < length m.seats → s ≡ get_or m.seats w s → t ≡ s → fault ≢ OutOfMemory
    → IsUnmet (HasValue s.hand) (Unit {0}) (Unit {0}) fault → Answers m (Offer w) (Err fault) (put m w t)
offer_refused m w s t fault there is same none h =
    let P : Worker → Type 0 = λ x. IsUnmet (HasValue x.hand) (Unit {0}) (Unit {0}) fault in
    (put_same m w s t is same, refused_at m (Offer w) fault (λ memory. absurd (none memory)) there (subst P (seat_is m w s there is) h))

pub rested : (m : World) (w : ℕ) (s t : Worker) → w < length m.seats → s ≡ get_or m.seats w s → Rests s t → Step m (Rest w) (put m w t) reply.Done
rested m w s t there is h =
    let P : Worker → Type 0 = λ x. Rests x t in rests w t there (subst P (seat_is m w s there is) h)

pub rest_refused : (m : World) (w : ℕ) (s t : Worker) (fault : Illegal) → w < length m.seats → s ≡ get_or m.seats w s → t ≡ s
    → IsUnmet (HasNames s.hand) (Unit {0}) (Unit {0}) fault → Answers m (Rest w) (Err fault) (put m w t)
rest_refused m w s t fault there is same h =
    let P : Worker → Type 0 = λ x. IsUnmet (HasNames x.hand) (Unit {0}) (Unit {0}) fault in
    (put_same m w s t is same, refused_at m (Rest w) fault (λ _. tt) there (subst P (seat_is m w s there is) h))

-- the hand fits besides
pub with_hand : (hand deque fit : Type 0) → hand → (fault : Illegal) → IsUnmet (Unit {0}) deque fit fault → IsUnmet hand deque fit fault
with_hand hand deque fit is NoSuchWorker h = absurd h
with_hand hand deque fit is WrongHand h = absurd (h tt)
with_hand hand deque fit is EmptyDeque h = (is, h.1)
with_hand hand deque fit is Misfit h = (is, h.1, h.2)
with_hand hand deque fit is OutOfMemory h = (is, h.1, h.2)

-- the children behind the first
pub children_behind : (parent : Name) (next last : ℕ) → next < last
    → map (child_name parent) (range_with_len (next + 1) (last - (next + 1))) ≡ drop 1 (map (child_name parent) (range_with_len next (last - next)))
children_behind parent next last h =
    let e : last - next ≡ suc (last - (next + 1)) = omega arith in
    rw e refl

pub stolen : (m : World) (w v : ℕ) (s t r u : Worker) (name copy : Name) → w < length m.seats → v < length m.seats → w ≢ v → copy ≡ name
    → s ≡ get_or m.seats v s → LosesFirst s name u → r ≡ get_or (set m.seats v u) w r → TakesName r name t
    → Step m (Steal w v) (put (put m v u) w t) (reply.Name copy)
stolen m w v s t r u name copy at from other same is loses was receives =
    let P : Worker → Type 0 = λ x. LosesFirst x name u in
    let Q : Worker → Type 0 = λ x. TakesName x name t in
    let N : Name → Type 0 = λ n. Step m (Steal w v) (put (put m v u) w t) (reply.Name n) in
    let e : r ≡ get_or m.seats w r = was ∙ get_or-set_other m.seats v w u r other in
    subst N (sym same) (steals w v name t u at from other (subst Q (seat_is m w r at e) receives) (subst P (seat_is m v s from is) loses))

pub steal_refused : (m : World) (w v : ℕ) (r s u : Worker) (fault : Illegal) → w < length m.seats → v < length m.seats → w ≢ v
    → r ≡ get_or m.seats w r → r.hand ≡ Empty → s ≡ get_or m.seats v s → u ≡ s → IsUnmet (Unit {0}) (s.deque ≢ []) (Unit {0}) fault
    → Answers m (Steal w v) (Err fault) (put m v u)
steal_refused m w v r s u fault at from other was idle is same h =
    let P : Worker → Type 0 = λ x. IsUnmet (Unit {0}) (x.deque ≢ []) (Unit {0}) fault in
    let Q : Worker → Type 0 = λ x. x.hand ≡ Empty in (
      put_same m v s u is same,
      refused_at m (Steal w v) fault (λ _. tt) (at, from, other)
          (with_hand ((worker_at m w).hand ≡ Empty) ((worker_at m v).deque ≢ []) (Unit {0}) (subst Q (seat_is m w r at was) idle) fault
          (subst P (seat_is m v s from is) h)),
    )

-- at first: the first worker, and so many more
pub start_is : (workers top : ℕ) → 1 ≤ workers
    → (record (idle_seat top) { deque = root_name ∷ [] }) ∷ replicate (workers - 1) (idle_seat top) ≡ (start workers top).seats
start_is workers top h =
    let e : workers ≡ suc (workers - 1) = omega arith in
    let P : ℕ → Type 0 = λ n. (record (idle_seat top) { deque = root_name ∷ [] }) ∷ replicate (workers - 1) (idle_seat top) ≡ (start n top).seats in
    subst P (sym e) refl

-- one more alike behind so many alike
pub replicate_more : {X : Type 0} (n : ℕ) (x : X) → replicate n x ++ x ∷ [] ≡ replicate (suc n) x
replicate_more zero x = refl
replicate_more (suc n) x = ap (λ xs. x ∷ xs) (replicate_more n x)

pub worker_more : (top counter : ℕ) (first : Worker) → 1 ≤ counter
    → (first ∷ replicate (counter - 1) (idle_seat top)) ++ idle_seat top ∷ [] ≡ first ∷ replicate (counter + 1 - 1) (idle_seat top)
worker_more top counter first h =
    let e : suc (counter - 1) ≡ counter + 1 - 1 = omega arith in
    ap (λ xs. first ∷ xs) (replicate_more (counter - 1) (idle_seat top) ∙ ap (λ n. replicate n (idle_seat top)) e)

-- a list that is its own rest is empty
pub own_rest : {X : Type 0} (xs : List X) → xs ≡ drop 1 xs → xs ≡ []
own_rest [] e = refl
own_rest (x ∷ xs) e = absurd (omega (arith, ap length e))

-- one event more, in front of what a run still does
pub goes_on : (initial m n : World) (all before after : List Event) (event : Event) (reply : Reply) → before ≡ event ∷ after → Step m event n reply
    → ((result : Result Unit Illegal) (last : World) → Runs m before result last → Runs initial all result last)
    → (result : Result Unit Illegal) (last : World) → Runs n after result last → Runs initial all result last
goes_on initial m n all before after event answer e step so_far result last run =
    let P : List Event → Type 0 = λ events. Runs m events result last in
    so_far result last (subst P (sym e) (goes m event answer n step after result last run))

pub stops_there : (initial m n : World) (all before after : List Event) (event : Event) (fault : Illegal) → before ≡ event ∷ after
    → Answers m event (Err fault) n
    → ((result : Result Unit Illegal) (last : World) → Runs m before result last → Runs initial all result last)
    → Runs initial all (Err fault) n
stops_there initial m n all before after event fault e refused so_far =
    let P : List Event → Type 0 = λ events. Runs m events (Err fault) m in
    let Q : World → Type 0 = λ last. Runs initial all (Err fault) last in
    subst Q (sym refused.0) (so_far (Err fault) m (subst P (sym e) (stops m event fault after refused.1)))

pub ends_there : (initial m : World) (all before : List Event) → before ≡ []
    → ((result : Result Unit Illegal) (last : World) → Runs m before result last → Runs initial all result last)
    → Runs initial all (Ok tt) m
ends_there initial m all before e so_far =
    let P : List Event → Type 0 = λ events. Runs m events (Ok tt) m in
    so_far (Ok tt) m (subst P (sym e) (ends m))
