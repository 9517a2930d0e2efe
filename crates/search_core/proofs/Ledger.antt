-- Each worker's account balances after any events.
use Rattle.std.proofs.Common.{◌≡◌, ◌≢◌, ℕ, zero, suc, ◌+◌, List, [], ◌∷◌, ◌++◌, length, get_or, map, take, replicate, refl, sym, ap, subst, ◌∙◌, inl, inr, arith, Result, eqb, cond, true, false, Bool}
use Rattle.std.specs.List.{flat_map}
use Rattle.std.proofs.lemmas.Bool.{cases_eq, eq-eqb, ne_eqb}
use Rattle.std.proofs.lemmas.List.{get_or-set_same}
use Rattle.search_trees.specs.declared.piece.Piece.{Piece}
use Rattle.search_trees.specs.Name.{Name}
use Rattle.search_trees.specs.Pieces.{names_below, names_of, all_below}
use Rattle.search_core.specs.declared.event.Event.{Event}
use Rattle.search_core.specs.declared.event.Event.TheVariants.{Pop, Steal, Look, Work, Push, Offer, Rest}
use Rattle.search_core.specs.declared.event.Worked.{Worked}
use Rattle.search_core.specs.declared.event.Worked.TheVariants.{Split, Closed, Found}
use Rattle.search_core.specs.declared.reply.Reply.{Reply}
use Rattle.search_core.specs.declared.reply.Illegal.{Illegal}
use Rattle.search_core.specs.declared.hand.Hand.{Hand}
use Rattle.search_core.specs.declared.hand.Hand.TheVariants.{Empty, Task, Children, Value}
use Rattle.search_core.specs.World.{Worker, World, idle_seat, worker_at, put, start, held_names}
use Rattle.search_core.specs.Turns.{Pops, LosesFirst, TakesName, Works, Pushes, Offers, Rests, hand_after, children_left}
use Rattle.search_core.specs.Steps.{Step, IsThere, Runs}
use Rattle.search_core.specs.Steps.Step.{pops, steals, looks, works, pushes, offers, rests}
use Rattle.search_core.specs.Steps.Runs.{ends, goes, stops}
use Rattle.search_core.specs.Ledger.{Done, Goes, name_told, name_pushed, of_worker, taken, pushed, IsAccount}
use Rattle.search_core.specs.Ledger.Goes.{none, more}
use Rattle.search_trees.proofs.Weights.{weigh, weigh-append, weigh-map, weigh-flat_map, same_names}
use Rattle.search_core.proofs.Effects.{namew, beloww, seat_other, there_still, piece_made, hand_below}

-- a hand's task, and its children
abbrev pub task_in : Hand → List Name
task_in Empty = []
task_in (Task name) = name ∷ []
task_in (Children names) = []
task_in (Value v) = []

abbrev pub children_in : Hand → List Name
children_in Empty = []
children_in (Task name) = []
children_in (Children names) = names
children_in (Value v) = []

-- what a rest leaves
abbrev pub task_left : World → Event → List Name
task_left m (Pop w) = []
task_left m (Steal w v) = []
task_left m (Look w) = []
task_left m (Work w worked) = []
task_left m (Push w) = []
task_left m (Offer w) = []
task_left m (Rest w) = task_in (worker_at m w).hand

abbrev pub child_left : World → Event → List Name
child_left m (Pop w) = []
child_left m (Steal w v) = []
child_left m (Look w) = []
child_left m (Work w worked) = []
child_left m (Push w) = []
child_left m (Offer w) = []
child_left m (Rest w) = take 1 (children_in (worker_at m w).hand)

-- From one worker's state to another, by one weight: what it took, pushed, and left of its tasks and children.
record Moves (g : Name → ℕ) (s t : Worker) (names pushes tasks children : List Name) : Type 0 where
  took : weigh g names + namew g s + weigh g (task_in s.hand) ≡ namew g t + weigh g (task_in t.hand) + weigh g tasks
  gave : beloww g t + weigh g (children_in s.hand) ≡ beloww g s + weigh g pushes + weigh g (children_in t.hand) + weigh g children
  left : weigh g t.left ≡ weigh g s.left + weigh g tasks + weigh g children

Moves-none : (g : Name → ℕ) (s : Worker) → Moves g s s [] [] [] []
Moves-none g s = record { took = omega arith; gave = omega arith; left = omega arith }

-- the same at a worker that is the one
at_worker : (g : Name → ℕ) (m : World) (w v : ℕ) (t : Worker) (took gave tasks children : List Name) → IsThere m v
    → Moves g (worker_at m v) t took gave tasks children
    → Moves g (worker_at m w) (worker_at (put m v t) w) (cond (eqb v w) took []) (cond (eqb v w) gave []) (cond (eqb v w) tasks []) (cond (eqb v w) children [])
at_worker g m w v t took gave tasks children there moves =
    elim (cases_eq v w) [
      | inl e ↦
          let test : eqb v w ≡ true = eq-eqb v w e in
          let here : worker_at (put m v t) v ≡ t = get_or-set_same m.seats v t (idle_seat 0) there in
          let P : Bool → Type 0 = λ b. Moves g (worker_at m w) (worker_at (put m v t) w) (cond b took []) (cond b gave []) (cond b tasks [])
          (cond b children []) in
          let Q : Worker → Type 0 = λ s. Moves g (worker_at m v) s took gave tasks children in
          let R : ℕ → Type 0 = λ x. Moves g (worker_at m x) (worker_at (put m v t) x) took gave tasks children in
          subst P (sym test) (subst R e (subst Q (sym here) moves))
      | inr ne ↦
          let test : eqb v w ≡ false = ne_eqb v w ne in
          let other : w ≢ v = λ e. ne (sym e) in
          let same : worker_at (put m v t) w ≡ worker_at m w = seat_other m w v t other in
          let P : Bool → Type 0 = λ b. Moves g (worker_at m w) (worker_at (put m v t) w) (cond b took []) (cond b gave []) (cond b tasks [])
          (cond b children []) in
          let Q : Worker → Type 0 = λ s. Moves g (worker_at m w) s [] [] [] [] in
          subst P (sym test) (subst Q (sym same) (Moves-none g (worker_at m w)))
    ]

none_either : (g : Name → ℕ) (b : Bool) → weigh g (cond b [] []) ≡ 0
none_either g true = refl
none_either g false = refl

-- a change of deques alone
silent : (g : Name → ℕ) (s t : Worker) → t.hand ≡ s.hand → t.pieces ≡ s.pieces → t.left ≡ s.left → Moves g s t [] [] [] []
silent g s t hand pieces left =
    let tasks : weigh g (task_in t.hand) ≡ weigh g (task_in s.hand) = ap (λ x. weigh g (task_in x)) hand in
    let children : weigh g (children_in t.hand) ≡ weigh g (children_in s.hand) = ap (λ x. weigh g (children_in x)) hand in
    let names : namew g t ≡ namew g s = ap (weigh (λ (piece : Piece). g piece.name)) pieces in
    let below : beloww g t ≡ beloww g s = ap (weigh (λ (piece : Piece). weigh g (names_below piece))) pieces in
    record { took = omega (arith, tasks, names); gave = omega (arith, children, below); left = omega (arith, ap (weigh g) left) }

-- a change of the hand, with the same pieces and names left
by_hand : (g : Name → ℕ) (s t : Worker) (before after : Hand) (took gave : List Name) → s.hand ≡ before → t.hand ≡ after → t.pieces ≡ s.pieces → t.left ≡ s.left
    → weigh g took + weigh g (task_in before) ≡ weigh g (task_in after) → weigh g (children_in before) ≡ weigh g gave + weigh g (children_in after)
    → Moves g s t took gave [] []
by_hand g s t before after took gave was is pieces left tasks children =
    let task_s : weigh g (task_in s.hand) ≡ weigh g (task_in before) = ap (λ x. weigh g (task_in x)) was in
    let task_t : weigh g (task_in t.hand) ≡ weigh g (task_in after) = ap (λ x. weigh g (task_in x)) is in
    let child_s : weigh g (children_in s.hand) ≡ weigh g (children_in before) = ap (λ x. weigh g (children_in x)) was in
    let child_t : weigh g (children_in t.hand) ≡ weigh g (children_in after) = ap (λ x. weigh g (children_in x)) is in
    let names : namew g t ≡ namew g s = ap (weigh (λ (piece : Piece). g piece.name)) pieces in
    let below : beloww g t ≡ beloww g s = ap (weigh (λ (piece : Piece). weigh g (names_below piece))) pieces in
    record {
      took = omega (arith, task_s, task_t, names, tasks);
      gave = omega (arith, child_s, child_t, below, children);
      left = omega (arith, ap (weigh g) left);
    }

left_tasks : (g : Name → ℕ) (names : List Name) → weigh g (task_in (children_left names)) ≡ 0
left_tasks g [] = refl
left_tasks g (name ∷ names) = refl

left_children : (g : Name → ℕ) (names : List Name) → weigh g (children_in (children_left names)) ≡ weigh g names
left_children g [] = refl
left_children g (name ∷ names) = refl

pop_moves : (g : Name → ℕ) (s t : Worker) (name : Name) → Pops s name t → Moves g s t (name ∷ []) [] [] []
pop_moves g s t name p =
    by_hand g s t Empty (Task name) (name ∷ []) [] p.hand (ap (λ (x : Worker). x.hand) p.after) (ap (λ (x : Worker). x.pieces) p.after)
    (ap (λ (x : Worker). x.left) p.after) (omega arith) refl

receive_moves : (g : Name → ℕ) (s t : Worker) (name : Name) → TakesName s name t → Moves g s t (name ∷ []) [] [] []
receive_moves g s t name p =
    by_hand g s t Empty (Task name) (name ∷ []) [] p.hand (ap (λ (x : Worker). x.hand) p.after) (ap (λ (x : Worker). x.pieces) p.after)
    (ap (λ (x : Worker). x.left) p.after) (omega arith) refl

offer_moves : (g : Name → ℕ) (s t : Worker) (v : ℕ) → Offers s v t → Moves g s t [] [] [] []
offer_moves g s t v p =
    by_hand g s t (Value v) Empty [] [] p.hand (ap (λ (x : Worker). x.hand) p.after) (ap (λ (x : Worker). x.pieces) p.after)
    (ap (λ (x : Worker). x.left) p.after) refl refl

push_moves : (g : Name → ℕ) (s t : Worker) → Pushes s t → Moves g s t [] (take 1 (held_names s.hand)) [] []
push_moves g s t p =
    let first : take 1 (held_names s.hand) ≡ p.name ∷ [] = ap (λ x. take 1 (held_names x)) p.hand in
    let P : List Name → Type 0 = λ names. Moves g s t [] names [] [] in
    subst P (sym first)
    (by_hand g s t (Children (p.name ∷ p.others)) (children_left p.others) [] (p.name ∷ []) p.hand (ap (λ (x : Worker). x.hand) p.after)
    (ap (λ (x : Worker). x.pieces) p.after) (ap (λ (x : Worker). x.left) p.after)
    (omega (arith, left_tasks g p.others)) (omega (arith, left_children g p.others)))

-- after work the hand holds no task, and the children below the piece
made_tasks : (g : Name → ℕ) (name : Name) (worked : Worked) → weigh g (task_in (hand_after name worked)) ≡ 0
made_tasks g name (Split kind k) = refl
made_tasks g name (Closed leaf) = refl
made_tasks g name (Found leaf v) = refl

made_children : (g : Name → ℕ) (name : Name) (worked : Worked) → weigh g (children_in (hand_after name worked)) ≡ weigh g (held_names (hand_after name worked))
made_children g name (Split kind k) = refl
made_children g name (Closed leaf) = refl
made_children g name (Found leaf v) = refl

work_moves : (g : Name → ℕ) (s t : Worker) (worked : Worked) → Works s worked t → Moves g s t [] [] [] []
work_moves g s t worked p =
    let piece = piece_made s t worked p in
    let pieces : t.pieces ≡ s.pieces ++ piece ∷ [] = ap (λ (x : Worker). x.pieces) p.after in
    let names : namew g t ≡ namew g s + (g p.name + 0) =
    ap (weigh (λ (x : Piece). g x.name)) pieces ∙ weigh-append (λ (x : Piece). g x.name) s.pieces (piece ∷ []) in
    let below : beloww g t ≡ beloww g s + (weigh g (names_below piece) + 0) =
    ap (weigh (λ (x : Piece). weigh g (names_below x))) pieces ∙ weigh-append (λ (x : Piece). weigh g (names_below x)) s.pieces (piece ∷ []) in
    let hand : t.hand ≡ hand_after p.name worked = ap (λ (x : Worker). x.hand) p.after in
    let task_s : weigh g (task_in s.hand) ≡ g p.name + 0 = ap (λ x. weigh g (task_in x)) p.hand in
    let task_t : weigh g (task_in t.hand) ≡ 0 = ap (λ x. weigh g (task_in x)) hand ∙ made_tasks g p.name worked in
    let child_s : weigh g (children_in s.hand) ≡ 0 = ap (λ x. weigh g (children_in x)) p.hand in
    let child_t : weigh g (children_in t.hand) ≡ weigh g (names_below piece) =
    ap (λ x. weigh g (children_in x)) hand ∙ (made_children g p.name worked ∙ ap (weigh g) (hand_below p.name s.seen worked p.fits)) in
    record {
      took = omega (arith, names, task_s, task_t);
      gave = omega (arith, below, child_s, child_t);
      left = omega (arith, ap (λ (x : Worker). weigh g x.left) p.after);
    }

-- the parts of a hand whose first name is left
record HasParts (g : Name → ℕ) (hand : Hand) (name : Name) (others : List Name) : Type 0 where
  one : weigh g (task_in hand) + weigh g (take 1 (children_in hand)) ≡ g name
  rest : weigh g (children_in hand) ≡ weigh g (take 1 (children_in hand)) + weigh g others

parts_of : (g : Name → ℕ) (hand : Hand) (name : Name) (others : List Name) → held_names hand ≡ name ∷ others → HasParts g hand name others
parts_of g Empty name others e = absurd (omega (arith, ap length e))
parts_of g (Task n) name others e =
    let first : n ≡ name = cc in
    let last : [] ≡ others = cc in
    record { one = omega (arith, ap g first); rest = omega (arith, ap (weigh g) last) }
parts_of g (Children names) name others e =
    let all : weigh g names ≡ g name + weigh g others = ap (weigh g) e in
    let first : weigh g (take 1 names) ≡ g name + 0 = ap (λ xs. weigh g (take 1 xs)) e in
    record { one = omega (arith, first); rest = omega (arith, all, first) }
parts_of g (Value v) name others e = absurd (omega (arith, ap length e))

rest_moves : (g : Name → ℕ) (s t : Worker) → Rests s t → Moves g s t [] [] (task_in s.hand) (take 1 (children_in s.hand))
rest_moves g s t p =
    let parts = parts_of g s.hand p.name p.others p.hand in
    let hand : t.hand ≡ children_left p.others = ap (λ (x : Worker). x.hand) p.after in
    let task_t : weigh g (task_in t.hand) ≡ 0 = ap (λ x. weigh g (task_in x)) hand ∙ left_tasks g p.others in
    let child_t : weigh g (children_in t.hand) ≡ weigh g p.others = ap (λ x. weigh g (children_in x)) hand ∙ left_children g p.others in
    let names : namew g t ≡ namew g s = ap (namew g) p.after in
    let below : beloww g t ≡ beloww g s = ap (beloww g) p.after in
    let left : weigh g t.left ≡ weigh g (s.left ++ p.name ∷ []) = ap (λ (x : Worker). weigh g x.left) p.after in
    record {
      took = omega (arith, names, task_t);
      gave = omega (arith, below, child_t, parts.rest);
      left = omega (arith, left, weigh-append g s.left (p.name ∷ []), parts.one);
    }

-- a worker that loses a name beside, and then one that moves
steal_moves : (g : Name → ℕ) (m : World) (w a v : ℕ) (name : Name) (t u : Worker) → IsThere m a → IsThere m v → a ≢ v
    → TakesName (worker_at m a) name t → LosesFirst (worker_at m v) name u
    → Moves g (worker_at m w) (worker_at (put (put m v u) a t) w) (cond (eqb a w) (name ∷ []) []) (cond (eqb a w) [] []) (cond (eqb a w) [] [])
    (cond (eqb a w) [] [])
steal_moves g m w a v name t u at from other r l =
    let middle = put m v u in
    let Q : Worker → Type 0 = λ s. Moves g s t (name ∷ []) [] [] [] in
    let mine : Moves g (worker_at middle a) t (name ∷ []) [] [] [] = subst Q (sym (seat_other m a v u other)) (receive_moves g (worker_at m a) t name r) in
    let second = at_worker g middle w a t (name ∷ []) [] [] [] (there_still m a v u at) mine in
    let quiet = silent g (worker_at m v) u (ap (λ (x : Worker). x.hand) l.after) (ap (λ (x : Worker). x.pieces) l.after)
    (ap (λ (x : Worker). x.left) l.after) in
    let first = at_worker g m w v u [] [] [] [] from quiet in
    record {
      took = omega (arith, first.took, second.took, none_either g (eqb v w));
      gave = omega (arith, first.gave, second.gave, none_either g (eqb v w));
      left = omega (arith, first.left, second.left, none_either g (eqb v w));
    }

step_moves : (g : Name → ℕ) (w : ℕ) (m : World) (event : Event) (n : World) (reply : Reply) → Step m event n reply
    → Moves g (worker_at m w) (worker_at n w) (of_worker w event (name_told reply)) (of_worker w event (name_pushed m event))
    (of_worker w event (task_left m event)) (of_worker w event (child_left m event))
step_moves g w m _ _ _ (pops a name t there p) = at_worker g m w a t (name ∷ []) [] [] [] there (pop_moves g (worker_at m a) t name p)
step_moves g w m _ _ _ (steals a v name t u at from other r l) = steal_moves g m w a v name t u at from other r l
step_moves g w m _ _ _ (looks a t there p) =
    at_worker g m w a t [] [] [] [] there (silent g (worker_at m a) t (ap (λ (x : Worker). x.hand) p.after) (ap (λ (x : Worker). x.pieces) p.after)
    (ap (λ (x : Worker). x.left) p.after))
step_moves g w m _ _ _ (works a worked t there p) = at_worker g m w a t [] [] [] [] there (work_moves g (worker_at m a) t worked p)
step_moves g w m _ _ _ (pushes a t there p) = at_worker g m w a t [] (take 1 (held_names (worker_at m a).hand)) [] [] there (push_moves g (worker_at m a) t p)
step_moves g w m _ _ _ (offers a v t there p) = at_worker g m w a t [] [] [] [] there (offer_moves g (worker_at m a) t v p)
step_moves g w m _ _ _ (rests a t there p) =
    at_worker g m w a t [] [] (task_in (worker_at m a).hand) (take 1 (children_in (worker_at m a).hand)) there (rest_moves g (worker_at m a) t p)

abbrev tasks_left : ℕ → List Done → List Name
tasks_left w dones = flat_map (λ (d : Done). of_worker w d.event (task_left d.before d.event)) dones

abbrev children_kept : ℕ → List Done → List Name
children_kept w dones = flat_map (λ (d : Done). of_worker w d.event (child_left d.before d.event)) dones

all_moves : (g : Name → ℕ) (w : ℕ) (m : World) (dones : List Done) (last : World) → Goes m dones last
    → Moves g (worker_at m w) (worker_at last w) (taken w dones) (pushed w dones) (tasks_left w dones) (children_kept w dones)
all_moves g w _ _ _ (none m) = Moves-none g (worker_at m w)
all_moves g w _ _ _ (more m event reply n step dones last others) =
    let first = step_moves g w m event n reply step in
    let rest = all_moves g w n dones last others in
    record {
      took =
          omega (
            arith,
            first.took,
            rest.took,
            weigh-append g (of_worker w event (name_told reply)) (taken w dones),
            weigh-append g (of_worker w event (task_left m event)) (tasks_left w dones),
          );
      gave =
          omega (
            arith,
            first.gave,
            rest.gave,
            weigh-append g (of_worker w event (name_pushed m event)) (pushed w dones),
            weigh-append g (of_worker w event (child_left m event)) (children_kept w dones),
          );
      left =
          omega (
            arith,
            first.left,
            rest.left,
            weigh-append g (of_worker w event (task_left m event)) (tasks_left w dones),
            weigh-append g (of_worker w event (child_left m event)) (children_kept w dones),
          );
    }

-- before the first event a worker has no pieces, no hand, and has left nothing
record IsFresh (s : Worker) : Type 0 where
  hand : s.hand ≡ Empty
  pieces : s.pieces ≡ []
  left : s.left ≡ []

fresh_idle : (top count w : ℕ) → IsFresh (get_or (replicate count (idle_seat top)) w (idle_seat 0))
fresh_idle top zero w = record { hand = refl; pieces = refl; left = refl }
fresh_idle top (suc count) zero = record { hand = refl; pieces = refl; left = refl }
fresh_idle top (suc count) (suc w) = fresh_idle top count w

fresh_start : (workers top w : ℕ) → IsFresh (worker_at (start workers top) w)
fresh_start zero top w = record { hand = refl; pieces = refl; left = refl }
fresh_start (suc count) top zero = record { hand = refl; pieces = refl; left = refl }
fresh_start (suc count) top (suc w) = fresh_idle top count w

hand_parts : (g : Name → ℕ) (hand : Hand) → weigh g (held_names hand) ≡ weigh g (task_in hand) + weigh g (children_in hand)
hand_parts g Empty = refl
hand_parts g (Task name) = omega arith
hand_parts g (Children names) = omega arith
hand_parts g (Value v) = refl

pub accounted : (workers top : ℕ) (dones : List Done) (last : World) (w : ℕ) → Goes (start workers top) dones last → IsAccount w dones (worker_at last w)
accounted workers top dones last w run =
    let s = worker_at last w in
    let fresh = fresh_start workers top w in
    let held = task_in s.hand ++ tasks_left w dones in
    let unpushed = children_in s.hand ++ children_kept w dones in
    let moves : (g : Name → ℕ) → Moves g (worker_at (start workers top) w) s (taken w dones) (pushed w dones) (tasks_left w dones)
    (children_kept w dones) = λ g. all_moves g w (start workers top) dones last run in
    let no_task : (g : Name → ℕ) → weigh g (task_in (worker_at (start workers top) w).hand) ≡ 0 = λ g. ap (λ x. weigh g (task_in x)) fresh.hand in
    let no_children : (g : Name → ℕ) → weigh g (children_in (worker_at (start workers top) w).hand) ≡ 0 = λ g. ap (λ x. weigh g (children_in x)) fresh.hand in
    let no_names : (g : Name → ℕ) → namew g (worker_at (start workers top) w) ≡ 0 = λ g. ap (weigh (λ (piece : Piece). g piece.name)) fresh.pieces in
    let no_below : (g : Name → ℕ) → beloww g (worker_at (start workers top) w) ≡ 0 = λ g. ap (weigh (λ (piece : Piece). weigh g (names_below piece)))
    fresh.pieces in
    let no_left : (g : Name → ℕ) → weigh g (worker_at (start workers top) w).left ≡ 0 = λ g. ap (weigh g) fresh.left in
    record {
      held = held;
      unpushed = unpushed;
      rest = same_names (held ++ unpushed) (held_names s.hand ++ s.left) (λ g. omega (
        arith,
        (moves g).left,
        no_left g,
        hand_parts g s.hand,
        weigh-append g held unpushed,
        weigh-append g (task_in s.hand) (tasks_left w dones),
        weigh-append g (children_in s.hand) (children_kept w dones),
        weigh-append g (held_names s.hand) s.left,
      ));
      report = record {
        took = same_names (taken w dones) (names_of s.pieces ++ held) (λ g. omega (
          arith,
          (moves g).took,
          no_task g,
          no_names g,
          weigh-append g (names_of s.pieces) held,
          weigh-append g (task_in s.hand) (tasks_left w dones),
          weigh-map g (λ (piece : Piece). piece.name) s.pieces,
        ));
        gave = same_names (all_below s.pieces) (pushed w dones ++ unpushed) (λ g. omega (
          arith,
          (moves g).gave,
          no_children g,
          no_below g,
          weigh-append g (pushed w dones) unpushed,
          weigh-append g (children_in s.hand) (children_kept w dones),
          weigh-flat_map g names_below s.pieces,
        ));
      };
    }

-- the events of a run that were done
pub done_in : (m : World) (events : List Event) (result : Result Unit Illegal) (last : World) → Runs m events result last
    → (dones : List Done) × ((rest : List Event) × (Goes m dones last × (map (λ (d : Done). d.event) dones ++ rest ≡ events)))
done_in _ _ _ _ (ends m) = ([], ([], (none m, refl)))
done_in _ _ _ _ (goes m event reply n step events result last run) =
    let r = done_in n events result last run in (
      record { before = m; event = event; reply = reply } ∷ r.0,
      (r.1.0, (more m event reply n step r.0 last r.1.1.0, ap (λ es. event ∷ es) r.1.1.1)),
    )
done_in _ _ _ _ (stops m event fault events refused) = ([], (event ∷ events, (none m, refl)))
