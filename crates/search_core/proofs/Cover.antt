-- After honest events a settled plan below the known delay stands open.
use Rattle.std.proofs.Common.{◌≡◌, ◌≢◌, ℕ, zero, suc, ◌+◌, ◌<◌, ◌≤◌, min, List, [], ◌∷◌, ◌++◌, length, set, replicate, refl, sym, ap, subst, ◌∙◌, inl, inr, ◌⊎◌, arith, Result}
use Rattle.std.specs.List.{flat_map, Contains}
use Rattle.std.proofs.lemmas.List.{length-append}
use Rattle.std.proofs.lemmas.List.FromFn.{length-map-range_with_len, get_or-map-range_with_len}
use Rattle.std.proofs.lemmas.List.Elements.{Contains-append_left, Contains-push, Contains-push_cases, Contains-append_cases}
use Rattle.std.proofs.lemmas.Bool.{cases_lt}
use Rattle.ttp_model.specs.declared.plan.Plan.{Plan}
use Rattle.ttp_model.specs.declared.step.Leaf.{Leaf}
use Rattle.ttp_model.specs.declared.step.Kind.{Kind}
use Rattle.ttp_model.specs.Kinds.{children_of}
use Rattle.ttp_model.specs.Instance.{Instance}
use Rattle.ttp_model.specs.Rules.{IsInstance}
use Rattle.ttp_model.specs.Plans.{IsValid}
use Rattle.ttp_model.specs.Delays.{delay, IsLeastDelay, HasNoPlan}
use Rattle.ttp_model.specs.Moves.{IsSettled}
use Rattle.ttp_model.proofs.ValidPlans.{bound_is_none}
use Rattle.ttp_model.proofs.Reached.{settled_reached}
use Rattle.tt_choice.specs.Choice.{Choice, IsChoice, IsIn}
use Rattle.tt_choice.specs.Branches.{IsBranch, root_choice, child}
use Rattle.tt_choice.proofs.Root.{IsChoice-root, IsIn-root}
use Rattle.tt_choice.proofs.Children.{child-IsIn, IsChoice-child}
use Rattle.sought_plans.specs.Known.{IsSought}
use Rattle.tt_infer.proofs.Leaves.{leaf_leaves_none}
use Rattle.certificate.specs.Trees.{children}
use Rattle.certificate.specs.declared.node.Node.TheVariants as node
use Rattle.search_trees.specs.declared.piece.Piece.{Piece}
use Rattle.search_trees.specs.Name.{Name, root_name, child_name, child_names}
use Rattle.search_trees.specs.Pieces.{names_below, StandsAt}
use Rattle.search_trees.specs.Pieces.StandsAt.{at_root, at_child}
use Rattle.search_core.specs.declared.event.Event.{Event}
use Rattle.search_core.specs.declared.event.Event.TheVariants.{Work}
use Rattle.search_core.specs.declared.event.Worked.{Worked}
use Rattle.search_core.specs.declared.event.Worked.TheVariants.{Split, Closed, Found}
use Rattle.search_core.specs.declared.reply.Reply.{Reply}
use Rattle.search_core.specs.declared.reply.Illegal.{Illegal}
use Rattle.search_core.specs.declared.hand.Hand.{Hand}
use Rattle.search_core.specs.declared.hand.Hand.TheVariants.{Empty, Task, Children, Value}
use Rattle.search_core.specs.World.{Worker, World, idle_seat, worker_at, put, start, open_names, all_pieces, held_names}
use Rattle.search_core.specs.Turns.{Pops, LosesFirst, TakesName, Looks, Works, Pushes, Offers, Rests, node_made, children_left}
use Rattle.search_core.specs.Steps.{Step, IsThere, Runs}
use Rattle.search_core.specs.Steps.Step.{pops, steals, looks, works, pushes, offers, rests}
use Rattle.search_core.specs.Steps.Runs.{ends, goes, stops}
use Rattle.search_core.specs.Bounds.{known, with_hand, least_with, IsDelay, IsTop, IsHonest, AreHonest, IsOpenPlan, Bounds}
use Rattle.search_trees.proofs.Weights.{weigh, same_or_other, only, only-other, contained, weighs}
use Rattle.search_core.proofs.Effects.{openw, open_weight, put_weight, seat_other, there_still, piece_made, pops_open, looks_open, works_open, pushes_open, offers_open, rests_open, steals_open}
use Rattle.search_core.proofs.Known.{known_best, least_put, least_found, least_given, least_best, IsOneOf, Each, Each-set, Each-weaker, Each-get_or, HasDelay, known_is}
use Rattle.search_trees.proofs.OneChoice.{stands_still}
use Rattle.search_core.proofs.Standing.{pieces_of, pieces_put, pieces_new}

-- a settled plan below a goal is sought in a choice that it is in
sought : (i : Instance) (c : Choice) (goal : ℕ) (plan : Plan) → IsSettled i plan → IsIn i c plan → delay i plan < goal → IsSought i c goal plan
sought i c goal plan settled within below = record { settled = settled; chosen = within; better = below }

-- what is known of one worker: what it saw and the goals of its leaves are no less than k, and the value in its hand is a delay
pub record IsSound (i : Instance) (k : ℕ) (s : Worker) : Type 0 where
  pub seen : k ≤ s.seen
  pub leaves : (piece : Piece) (leaf : Leaf) → Contains s.pieces piece → piece.node ≡ node.Leaf leaf → k ≤ leaf.goal
  pub value : HasDelay i s

IsSound-lower : (i : Instance) (j k : ℕ) → j ≤ k → (s : Worker) → IsSound i k s → IsSound i j s
IsSound-lower i j k le s h = record {
  seen = omega (arith, h.seen);
  leaves = λ piece leaf there is. omega (arith, h.leaves piece leaf there is);
  value = h.value;
}

-- the same leaves and sight, and no value
still_sound : (i : Instance) (k : ℕ) (s t : Worker) → IsSound i k s → t.seen ≡ s.seen → t.pieces ≡ s.pieces → HasDelay i t → IsSound i k t
still_sound i k s t h seen pieces value = record {
  seen = omega (arith, h.seen);
  leaves = λ piece leaf there is.
      let P : List Piece → Type 0 = λ xs. Contains xs piece in
      h.leaves piece leaf (subst P pieces there) is;
  value = value;
}

-- an open plan, and its choice is one of the instance
record IsCovered (i : Instance) (m : World) (plan : Plan) : Type 0 where
  open_plan : IsOpenPlan i m plan
  choice : IsChoice i open_plan.choice

-- what holds at each moment
record Holds (i : Instance) (top : ℕ) (m : World) : Type 0 where
  seats : Each (IsSound i (known m)) m.seats
  best : IsOneOf i top m.best
  cover : (plan : Plan) → IsSettled i plan → delay i plan < known m → IsCovered i m plan

-- one moment has the pieces of another
abbrev pub HasPieces : World → World → Type 0
HasPieces m n = (x : Piece) → Contains (all_pieces m) x → Contains (all_pieces n) x

covered_still : (i : Instance) (m n : World) (plan : Plan) → HasPieces m n → (covered : IsCovered i m plan)
    → Contains (open_names n) covered.open_plan.name → IsCovered i n plan
covered_still i m n plan more covered there =
    let o = covered.open_plan in
    record {
      open_plan = record {
        name = o.name;
        choice = o.choice;
        is_open = there;
        stands = stands_still i (all_pieces m) (all_pieces n) more o.name o.choice o.stands;
        within = o.within;
      };
      choice = covered.choice;
    }

-- the same open names
abbrev HasOpen : World → World → Type 0
HasOpen m n = (g : Name → ℕ) → weigh g (open_names n) ≡ weigh g (open_names m)

open_still : (m n : World) (name : Name) → HasOpen m n → Contains (open_names m) name → Contains (open_names n) name
open_still m n name same there = contained name (open_names n) (omega (arith, same (only name), weighs name (open_names m) there))

-- an event that leaves the open names and the known delay
kept : (i : Instance) (top : ℕ) (m n : World) → HasPieces m n → HasOpen m n → known n ≡ known m → IsOneOf i top n.best
    → Each (IsSound i (known m)) n.seats → Holds i top m → Holds i top n
kept i top m n more same knows best seats h = record {
  seats = let P : ℕ → Type 0 = λ k. Each (IsSound i k) n.seats in subst P (sym knows) seats;
  best = best;
  cover = λ plan settled below.
      let covered = h.cover plan settled (omega (arith, knows, below)) in
      covered_still i m n plan more covered (open_still m n covered.open_plan.name same covered.open_plan.is_open);
}

put_open : (m : World) (w : ℕ) (t : Worker) → IsThere m w → ((g : Name → ℕ) → openw g t ≡ openw g (worker_at m w)) → HasOpen m (put m w t)
put_open m w t there same g =
    omega (arith, open_weight g m, open_weight g (put m w t), put_weight (openw g) m w t there, same g)

pub put_pieces : (m : World) (w : ℕ) (t : Worker) → IsThere m w → ((x : Piece) → Contains (worker_at m w).pieces x → Contains t.pieces x)
    → HasPieces m (put m w t)
put_pieces m w t there more x = pieces_put m.seats w t (idle_seat 0) x there (more x)

pub same_pieces : (s t : Worker) → t.pieces ≡ s.pieces → (x : Piece) → Contains s.pieces x → Contains t.pieces x
same_pieces s t e x h =
    let P : List Piece → Type 0 = λ xs. Contains xs x in subst P (sym e) h

-- an event at one worker that leaves its pieces, its open names and what its hand counts
local : (i : Instance) (top : ℕ) (m : World) (w : ℕ) (t : Worker) → IsThere m w → t.pieces ≡ (worker_at m w).pieces
    → ((g : Name → ℕ) → openw g t ≡ openw g (worker_at m w)) → ((k : ℕ) → with_hand t.hand k ≡ with_hand (worker_at m w).hand k)
    → IsSound i (known m) t → Holds i top m → Holds i top (put m w t)
local i top m w t there pieces opens hand sound h =
    kept i top m (put m w t) (put_pieces m w t there (same_pieces (worker_at m w) t pieces)) (put_open m w t there opens)
    (least_put m.best m.seats w t (idle_seat 0) there hand) h.best (Each-set (IsSound i (known m)) m.seats w t sound h.seats) h

seat_sound : (i : Instance) (top : ℕ) (m : World) (w : ℕ) → IsThere m w → Holds i top m → IsSound i (known m) (worker_at m w)
seat_sound i top m w there h = Each-get_or (IsSound i (known m)) m.seats w (idle_seat 0) there h.seats

-- hands that hold no value
no_value : (i : Instance) (t : Worker) (h : Hand) → t.hand ≡ h → ((v : ℕ) → h ≢ Value v) → HasDelay i t
no_value i t h e none v is = absurd (none v (sym e ∙ is))

counts : (t : Worker) (h : Hand) → t.hand ≡ h → ((k : ℕ) → with_hand h k ≡ k) → (k : ℕ) → with_hand t.hand k ≡ k
counts t h e none k = ap (λ x. with_hand x k) e ∙ none k

left_counts : (names : List Name) (k : ℕ) → with_hand (children_left names) k ≡ k
left_counts [] k = refl
left_counts (name ∷ names) k = refl

left_no_value : (names : List Name) (v : ℕ) → children_left names ≢ Value v
left_no_value [] v e = cc
left_no_value (name ∷ names) v e = cc

-- a hand with names counts nothing
names_count : (h : Hand) (name : Name) (others : List Name) → held_names h ≡ name ∷ others → (k : ℕ) → with_hand h k ≡ k
names_count Empty name others e k = refl
names_count (Task n) name others e k = refl
names_count (Children names) name others e k = refl
names_count (Value v) name others e k = absurd (omega (arith, ap length e))

popped : (i : Instance) (top : ℕ) (m : World) (w : ℕ) (name : Name) (t : Worker) → IsThere m w → Pops (worker_at m w) name t → Holds i top m
    → Holds i top (put m w t)
popped i top m w name t there p h =
    let s = worker_at m w in
    let hand : t.hand ≡ Task name = ap (λ (x : Worker). x.hand) p.after in
    local i top m w t there (ap (λ (x : Worker). x.pieces) p.after) (λ g. pops_open g s t name p)
    (λ k. counts t (Task name) hand (λ j. refl) k ∙ sym (counts s Empty p.hand (λ j. refl) k))
    (still_sound i (known m) s t (seat_sound i top m w there h) (ap (λ (x : Worker). x.seen) p.after) (ap (λ (x : Worker). x.pieces) p.after)
    (no_value i t (Task name) hand (λ v e. cc))) h

looked : (i : Instance) (top : ℕ) (m : World) (w : ℕ) (t : Worker) → IsThere m w → Looks (worker_at m w) m.best t → Holds i top m → Holds i top (put m w t)
looked i top m w t there p h =
    let s = worker_at m w in
    let sound = seat_sound i top m w there h in
    let hand : t.hand ≡ s.hand = ap (λ (x : Worker). x.hand) p.after in
    let pieces : t.pieces ≡ s.pieces = ap (λ (x : Worker). x.pieces) p.after in
    let seen : t.seen ≡ m.best = ap (λ (x : Worker). x.seen) p.after in
    local i top m w t there pieces (λ g. looks_open g s t m.best p) (λ k. ap (λ x. with_hand x k) hand)
    (record {
      seen = omega (arith, seen, known_best m.best m.seats);
      leaves = λ piece leaf at is. let P : List Piece → Type 0 = λ xs. Contains xs piece in sound.leaves piece leaf (subst P pieces at) is;
      value = λ v is. sound.value v (sym hand ∙ is);
    }) h

pushed : (i : Instance) (top : ℕ) (m : World) (w : ℕ) (t : Worker) → IsThere m w → Pushes (worker_at m w) t → Holds i top m → Holds i top (put m w t)
pushed i top m w t there p h =
    let s = worker_at m w in
    let hand : t.hand ≡ children_left p.others = ap (λ (x : Worker). x.hand) p.after in
    local i top m w t there (ap (λ (x : Worker). x.pieces) p.after) (λ g. pushes_open g s t p)
    (λ k. counts t (children_left p.others) hand (left_counts p.others) k ∙ sym (counts s (Children (p.name ∷ p.others)) p.hand (λ j. refl) k))
    (still_sound i (known m) s t (seat_sound i top m w there h) (ap (λ (x : Worker). x.seen) p.after) (ap (λ (x : Worker). x.pieces) p.after)
    (no_value i t (children_left p.others) hand (left_no_value p.others))) h

rested : (i : Instance) (top : ℕ) (m : World) (w : ℕ) (t : Worker) → IsThere m w → Rests (worker_at m w) t → Holds i top m → Holds i top (put m w t)
rested i top m w t there p h =
    let s = worker_at m w in
    let hand : t.hand ≡ children_left p.others = ap (λ (x : Worker). x.hand) p.after in
    local i top m w t there (ap (λ (x : Worker). x.pieces) p.after) (λ g. rests_open g s t p)
    (λ k. counts t (children_left p.others) hand (left_counts p.others) k ∙ sym (names_count s.hand p.name p.others p.hand k))
    (still_sound i (known m) s t (seat_sound i top m w there h) (ap (λ (x : Worker). x.seen) p.after) (ap (λ (x : Worker). x.pieces) p.after)
    (no_value i t (children_left p.others) hand (left_no_value p.others))) h

min_is : (a b : ℕ) → (min a b ≡ a) ⊎ (min a b ≡ b)
min_is a b = elim (cases_lt a b) [ inl lt ↦ inl (omega arith) | inr le ↦ inr (omega arith) ]

-- the best delay after an offer is one that the search began with, or a delay
lesser_is : (i : Instance) (top best v : ℕ) → IsOneOf i top best → IsDelay i v → IsOneOf i top (min best v)
lesser_is i top best v one value =
    let P : ℕ → Type 0 = λ k. IsOneOf i top k in
    elim (min_is best v) [ inl e ↦ subst P (sym e) one | inr e ↦ subst P (sym e) (inr value) ]

offered : (i : Instance) (top : ℕ) (m : World) (w v : ℕ) (t : Worker) → IsThere m w → Offers (worker_at m w) v t → Holds i top m
    → Holds i top (put (record m { best = min m.best v }) w t)
offered i top m w v t there p h =
    let s = worker_at m w in
    let sound = seat_sound i top m w there h in
    let hand : t.hand ≡ Empty = ap (λ (x : Worker). x.hand) p.after in
    let pieces : t.pieces ≡ s.pieces = ap (λ (x : Worker). x.pieces) p.after in
    let n : World = put (record m { best = min m.best v }) w t in
    let given = least_given m.best m.seats w t (idle_seat 0) v there (λ k. ap (λ x. with_hand x k) p.hand) (counts t Empty hand (λ j. refl)) in
    let knows : known n ≡ known m = least_best m.best v (set m.seats w t) ∙ sym given in
    kept i top m n (put_pieces m w t there (same_pieces s t pieces)) (put_open m w t there (λ g. offers_open g s t v p)) knows
    (lesser_is i top m.best v h.best (sound.value v p.hand))
    (Each-set (IsSound i (known m)) m.seats w t (still_sound i (known m) s t sound (ap (λ (x : Worker). x.seen) p.after) pieces
    (no_value i t Empty hand (λ v e. cc))) h.seats) h

stolen : (i : Instance) (top : ℕ) (m : World) (w v : ℕ) (name : Name) (t u : Worker) → IsThere m w → IsThere m v → w ≢ v
    → TakesName (worker_at m w) name t → LosesFirst (worker_at m v) name u → Holds i top m → Holds i top (put (put m v u) w t)
stolen i top m w v name t u at from other r l h =
    let middle = put m v u in
    let s = worker_at m w in
    let same : worker_at middle w ≡ s = seat_other m w v u other in
    let hand : t.hand ≡ Task name = ap (λ (x : Worker). x.hand) r.after in
    let held : u.hand ≡ (worker_at m v).hand = ap (λ (x : Worker). x.hand) l.after in
    let pieces : t.pieces ≡ (worker_at middle w).pieces = ap (λ (x : Worker). x.pieces) r.after ∙ ap (λ (x : Worker). x.pieces) (sym same) in
    let lost = seat_sound i top m v from h in
    let first : known middle ≡ known m = least_put m.best m.seats v u (idle_seat 0) from (λ k. ap (λ x. with_hand x k) held) in
    let second : known (put middle w t) ≡ known middle =
    least_put m.best middle.seats w t (idle_seat 0) (there_still m w v u at)
    (λ k. counts t (Task name) hand (λ j. refl) k ∙ sym (counts (worker_at middle w) Empty (ap (λ (x : Worker). x.hand) same ∙ r.hand) (λ j. refl) k)) in
    let sound_u = still_sound i (known m) (worker_at m v) u lost (ap (λ (x : Worker). x.seen) l.after) (ap (λ (x : Worker). x.pieces) l.after)
    (λ k is. lost.value k (sym held ∙ is)) in
    let sound_t = still_sound i (known m) s t (seat_sound i top m w at h) (ap (λ (x : Worker). x.seen) r.after)
    (ap (λ (x : Worker). x.pieces) r.after) (no_value i t (Task name) hand (λ v e. cc)) in
    kept i top m (put middle w t)
    (λ x there. put_pieces middle w t (there_still m w v u at) (same_pieces (worker_at middle w) t pieces) x
    (put_pieces m v u from (same_pieces (worker_at m v) u (ap (λ (x : Worker). x.pieces) l.after)) x there))
    (λ g. omega (arith, open_weight g m, open_weight g (put middle w t), steals_open g m w v name t u at from other r l))
    (second ∙ first) h.best
    (Each-set (IsSound i (known m)) middle.seats w t sound_t (Each-set (IsSound i (known m)) m.seats v u sound_u h.seats)) h

-- Work, as it changes open names: its task's name goes, and those below its piece come.

work_open : (m : World) (w : ℕ) (worked : Worked) (t : Worker) (there : IsThere m w) (p : Works (worker_at m w) worked t) (g : Name → ℕ)
    → weigh g (open_names (put m w t)) + g p.name ≡ weigh g (open_names m) + weigh g (names_below (piece_made (worker_at m w) t worked p))
work_open m w worked t there p g =
    omega (arith, open_weight g m, open_weight g (put m w t), put_weight (openw g) m w t there, works_open g (worker_at m w) t worked p)

pub work_pieces : (s t : Worker) (worked : Worked) (p : Works s worked t) → t.pieces ≡ s.pieces ++ piece_made s t worked p ∷ []
work_pieces s t worked p = ap (λ (x : Worker). x.pieces) p.after

pub work_keeps : (m : World) (w : ℕ) (worked : Worked) (t : Worker) → IsThere m w → Works (worker_at m w) worked t → HasPieces m (put m w t)
work_keeps m w worked t there p =
    let s = worker_at m w in
    put_pieces m w t there
    (λ x h. let P : List Piece → Type 0 = λ xs. Contains xs x in
    subst P (sym (work_pieces s t worked p)) (Contains-append_left s.pieces (piece_made s t worked p ∷ []) x h))

work_adds : (m : World) (w : ℕ) (worked : Worked) (t : Worker) (there : IsThere m w) (p : Works (worker_at m w) worked t)
    → Contains (all_pieces (put m w t)) (piece_made (worker_at m w) t worked p)
work_adds m w worked t there p =
    let s = worker_at m w in
    let piece = piece_made s t worked p in
    let P : List Piece → Type 0 = λ xs. Contains xs piece in
    pieces_new m.seats w t (idle_seat 0) piece (there_still m w w t there) there
    (subst P (sym (work_pieces s t worked p)) (Contains-push s.pieces piece))

-- what stands open at another name stands so still
other_open : (m : World) (w : ℕ) (worked : Worked) (t : Worker) (there : IsThere m w) (p : Works (worker_at m w) worked t) (name : Name)
    → name ≢ p.name → Contains (open_names m) name → Contains (open_names (put m w t)) name
other_open m w worked t there p name other h =
    contained name (open_names (put m w t))
    (omega (arith, work_open m w worked t there p (only name), only-other name p.name other, weighs name (open_names m) h))

-- and so does a child of the piece
child_open : (m : World) (w : ℕ) (worked : Worked) (t : Worker) (there : IsThere m w) (p : Works (worker_at m w) worked t) (j : ℕ)
    → j < children (node_made worked) → Contains (open_names (put m w t)) (child_name p.name j)
child_open m w worked t there p j inside =
    let name = child_name p.name j in
    let below = names_below (piece_made (worker_at m w) t worked p) in
    let count = children (node_made worked) in
    let at : Contains below name = (
      j,
      omega (arith, length-map-range_with_len (child_name p.name) 0 count, inside),
      get_or-map-range_with_len (child_name p.name) 0 count j j name inside (omega arith),
    ) in
    let other : name ≢ p.name = λ e. absurd (omega (arith, ap length e, length-append p.name (j ∷ []))) in
    contained name (open_names (put m w t))
    (omega (arith, work_open m w worked t there p (only name), only-other name p.name other, weighs name below at))

-- a plan in the choice of the task is in a child's
split_covers : (i : Instance) (m : World) (w : ℕ) (kind : Kind) (k : ℕ) (t : Worker) (there : IsThere m w)
    (p : Works (worker_at m w) (Split kind k) t) (c : Choice) (plan : Plan)
    → IsChoice i c → IsIn i c plan → IsValid i plan → StandsAt i (all_pieces m) p.name c → IsBranch i c kind (children_of kind k) → IsCovered i (put m w t) plan
split_covers i m w kind k t there p c plan choice within valid stands right =
    let n = put m w t in
    let into = child-IsIn i c kind plan choice right.is_open valid within in
    let j = into.0 in
    let inside : j < children_of kind k = omega (arith, into.1, right.just) in
    let piece = piece_made (worker_at m w) t (Split kind k) p in
    let here : StandsAt i (all_pieces n) p.name c = stands_still i (all_pieces m) (all_pieces n) (work_keeps m w (Split kind k) t there p) p.name c stands in
    record {
      open_plan = record {
        name = child_name p.name j;
        choice = child i c kind j;
        is_open = child_open m w (Split kind k) t there p j inside;
        stands = at_child piece c j (work_adds m w (Split kind k) t there p) here inside;
        within = into.2;
      };
      choice = IsChoice-child i c kind j choice right.is_open into.1;
    }

-- what the work of a task does for a plan that is in the task's choice
abbrev Handles : Instance → World → World → ℕ → Name → Plan → Type 0
Handles i m n goal name plan = (c : Choice) → IsChoice i c → IsIn i c plan → StandsAt i (all_pieces m) name c → delay i plan < goal → IsCovered i n plan

work_covers : (i : Instance) (m : World) (w : ℕ) (worked : Worked) (t : Worker) (there : IsThere m w) (p : Works (worker_at m w) worked t)
    (plan : Plan) (goal : ℕ)
    → Handles i m (put m w t) goal p.name plan → (covered : IsCovered i m plan) → delay i plan < goal → IsCovered i (put m w t) plan
work_covers i m w worked t there p plan goal handles covered below =
    let o = covered.open_plan in
    elim (same_or_other o.name p.name) [
      | inl e ↦
          let P : Name → Type 0 = λ name. StandsAt i (all_pieces m) name o.choice in
          handles o.choice covered.choice o.within (subst P e o.stands) below
      | inr other ↦ covered_still i m (put m w t) plan (work_keeps m w worked t there p) covered (other_open m w worked t there p o.name other o.is_open)
    ]

-- after work, where the piece's goal is at least k
work_sound : (i : Instance) (k : ℕ) (s t : Worker) (worked : Worked) (p : Works s worked t) → IsSound i k s
    → ((leaf : Leaf) → node_made worked ≡ node.Leaf leaf → k ≤ leaf.goal) → HasDelay i t → IsSound i k t
work_sound i k s t worked p sound goal value = record {
  seen = omega (arith, sound.seen, ap (λ (x : Worker). x.seen) p.after);
  leaves = λ piece leaf there is.
      let P : List Piece → Type 0 = λ xs. Contains xs piece in
      elim (Contains-push_cases s.pieces (piece_made s t worked p) piece (subst P (work_pieces s t worked p) there)) [
        | inl before ↦ sound.leaves piece leaf before is
        | inr e ↦ goal leaf (ap (λ (x : Piece). x.node) e ∙ is)
      ];
  value = value;
}

leaf_goal : (made leaf : Leaf) → node.Leaf made ≡ node.Leaf leaf → made.goal ≡ leaf.goal
leaf_goal made leaf e =
    let same : made ≡ leaf = cc in
    ap (λ (x : Leaf). x.goal) same

worked : (i : Instance) (top : ℕ) (m : World) (w : ℕ) (work : Worked) (t : Worker) → IsInstance i → (there : IsThere m w) (p : Works (worker_at m w) work t)
    → IsHonest i m (Work w work) → Holds i top m → Holds i top (put m w t)
worked i top m w (Split kind k) t ok there p honest h =
    let s = worker_at m w in
    let n = put m w t in
    let hand : t.hand ≡ Children (child_names p.name k) = ap (λ (x : Worker). x.hand) p.after in
    let knows : known n ≡ known m = least_put m.best m.seats w t (idle_seat 0) there
    (λ j. counts t (Children (child_names p.name k)) hand (λ l. refl) j ∙ sym (counts s (Task p.name) p.hand (λ l. refl) j)) in
    let sound = work_sound i (known m) s t (Split kind k) p (seat_sound i top m w there h) (λ leaf e. cc)
    (no_value i t (Children (child_names p.name k)) hand (λ v e. cc)) in
    record {
      seats = let P : ℕ → Type 0 = λ j. Each (IsSound i j) n.seats in subst P (sym knows) (Each-set (IsSound i (known m)) m.seats w t sound h.seats);
      best = h.best;
      cover = λ plan settled below.
          let lower : delay i plan < known m = omega (arith, knows, below) in
          work_covers i m w (Split kind k) t there p plan (known m)
          (λ c choice within stands b. split_covers i m w kind k t there p c plan choice within settled.valid stands (honest.1 p.name c p.hand stands))
          (h.cover plan settled lower) lower;
    }
worked i top m w (Closed leaf) t ok there p honest h =
    let s = worker_at m w in
    let n = put m w t in
    let before = seat_sound i top m w there h in
    let hand : t.hand ≡ Empty = ap (λ (x : Worker). x.hand) p.after in
    let knows : known n ≡ known m = least_put m.best m.seats w t (idle_seat 0) there
    (λ j. counts t Empty hand (λ l. refl) j ∙ sym (counts s (Task p.name) p.hand (λ l. refl) j)) in
    let sound = work_sound i (known m) s t (Closed leaf) p before (λ other e. omega (arith, leaf_goal leaf other e, p.fits, before.seen))
    (no_value i t Empty hand (λ v e. cc)) in
    record {
      seats = let P : ℕ → Type 0 = λ j. Each (IsSound i j) n.seats in subst P (sym knows) (Each-set (IsSound i (known m)) m.seats w t sound h.seats);
      best = h.best;
      cover = λ plan settled below.
          let lower : delay i plan < known m = omega (arith, knows, below) in
          work_covers i m w (Closed leaf) t there p plan (known m)
          (λ c choice within stands b. absurd (leaf_leaves_none i c leaf ok choice (honest.1 p.name c p.hand stands) plan
          (sought i c leaf.goal plan settled within (omega (arith, b, p.fits, before.seen)))))
          (h.cover plan settled lower) lower;
    }
worked i top m w (Found leaf v) t ok there p honest h =
    let s = worker_at m w in
    let n = put m w t in
    let before = seat_sound i top m w there h in
    let hand : t.hand ≡ Value v = ap (λ (x : Worker). x.hand) p.after in
    let knows : known n ≡ min v (known m) = least_found m.best m.seats w t (idle_seat 0) v there (counts s (Task p.name) p.hand (λ l. refl))
    (λ j. ap (λ x. with_hand x j) hand) in
    let lowered : known n ≤ known m = omega (arith, knows) in
    let least : known n ≤ leaf.goal = omega (arith, knows, p.fits.0) in
    let P : ℕ → Type 0 = λ u. IsDelay i u in
    let value : HasDelay i t = λ u is. (let e : v ≡ u = cc (hand, is) in subst P e honest.0) in
    let sound = work_sound i (known n) s t (Found leaf v) p (IsSound-lower i (known n) (known m) lowered s before)
    (λ other e. omega (arith, leaf_goal leaf other e, least)) value in
    record {
      seats =
          Each-set (IsSound i (known n)) m.seats w t sound (Each-weaker (IsSound i (known m)) (IsSound i (known n)) m.seats
          (IsSound-lower i (known n) (known m) lowered) h.seats);
      best = h.best;
      cover = λ plan settled below.
          let lower : delay i plan < known m = omega (arith, lowered, below) in
          work_covers i m w (Found leaf v) t there p plan (known n)
          (λ c choice within stands b. absurd (leaf_leaves_none i c leaf ok choice (honest.1 p.name c p.hand stands) plan
          (sought i c leaf.goal plan settled within (omega (arith, b, least)))))
          (h.cover plan settled lower) below;
    }

step_holds : (i : Instance) (top : ℕ) (m : World) (event : Event) (n : World) (reply : Reply) → IsInstance i → Step m event n reply
    → IsHonest i m event → Holds i top m → Holds i top n
step_holds i top m _ _ _ ok (pops w name t there p) honest h = popped i top m w name t there p h
step_holds i top m _ _ _ ok (steals w v name t u at from other r l) honest h = stolen i top m w v name t u at from other r l h
step_holds i top m _ _ _ ok (looks w t there p) honest h = looked i top m w t there p h
step_holds i top m _ _ _ ok (works w work t there p) honest h = worked i top m w work t ok there p honest h
step_holds i top m _ _ _ ok (pushes w t there p) honest h = pushed i top m w t there p h
step_holds i top m _ _ _ ok (offers w v t there p) honest h = offered i top m w v t there p h
step_holds i top m _ _ _ ok (rests w t there p) honest h = rested i top m w t there p h

runs_hold : (i : Instance) (top : ℕ) (m : World) (events : List Event) (result : Result Unit Illegal) (last : World) → IsInstance i
    → Runs m events result last → AreHonest i m events → Holds i top m → Holds i top last
runs_hold i top _ _ _ _ ok (ends m) honest h = h
runs_hold i top _ _ _ _ ok (goes m event reply n step events result last run) honest h =
    let now = honest n reply step in
    runs_hold i top n events result last ok run now.1 (step_holds i top m event n reply ok step now.0 h)
runs_hold i top _ _ _ _ ok (stops m event fault events refused) honest h = h

-- workers that have nothing know what the search began with
idle_known : (top count : ℕ) → least_with top (replicate count (idle_seat top)) ≡ top
idle_known top zero = refl
idle_known top (suc count) = idle_known top count

idle_sound : (i : Instance) (top : ℕ) (deque : List Name) → IsSound i top (record (idle_seat top) { deque = deque })
idle_sound i top deque = record {
  seen = omega arith;
  leaves = λ piece leaf there is. absurd (omega (arith, there.1));
  value = λ v is. cc;
}

all_idle : (i : Instance) (top count : ℕ) → Each (IsSound i top) (replicate count (idle_seat top))
all_idle i top zero = tt
all_idle i top (suc count) = (idle_sound i top [], all_idle i top count)

start_holds : (i : Instance) (workers top : ℕ) → IsInstance i → 1 ≤ workers → Holds i top (start workers top)
start_holds i zero top ok some = absurd (omega arith)
start_holds i (suc count) top ok some =
    let m = start (suc count) top in
    let e : known m ≡ top = idle_known top count in
    let P : ℕ → Type 0 = λ k. Each (IsSound i k) m.seats in
    let all : Each (IsSound i top) m.seats = (idle_sound i top (root_name ∷ []), all_idle i top count) in
    record {
      seats = subst P (sym e) all;
      best = inl refl;
      cover = λ plan settled below. record {
        open_plan = record {
          name = root_name;
          choice = root_choice i;
          is_open = (0, omega arith, refl);
          stands = at_root;
          within = IsIn-root i plan ok settled.valid;
        };
        choice = IsChoice-root i ok;
      };
    }

-- what holds at a moment, as bounds

leaves_at : (i : Instance) (k : ℕ) (seats : List Worker) → Each (IsSound i k) seats → (piece : Piece) (leaf : Leaf)
    → Contains (flat_map pieces_of seats) piece → piece.node ≡ node.Leaf leaf → k ≤ leaf.goal
leaves_at i k [] all piece leaf there is = absurd (omega (arith, there.1))
leaves_at i k (s ∷ seats) all piece leaf there is =
    elim (Contains-append_cases s.pieces (flat_map pieces_of seats) piece there) [
      | inl here ↦ all.0.leaves piece leaf here is
      | inr behind ↦ leaves_at i k seats all.1 piece leaf behind is
    ]

known_reached : (i : Instance) (top : ℕ) (m : World) → Holds i top m → IsOneOf i top (known m)
known_reached i top m h =
    elim (known_is i m.best m.seats (Each-weaker (IsSound i (known m)) (HasDelay i) m.seats (λ s sound. sound.value) h.seats)) [
      | inl e ↦ let P : ℕ → Type 0 = λ k. IsOneOf i top k in subst P (sym e) h.best
      | inr is ↦ inr is
    ]

covers : (i : Instance) (top : ℕ) (m : World) → IsInstance i → Holds i top m → (plan : Plan) → IsValid i plan → delay i plan < known m
    → (settled : Plan) × IsSettled i settled × (delay i settled ≤ delay i plan) × IsOpenPlan i m settled
covers i top m ok h plan valid below =
    let r = settled_reached i plan ok valid in
    (r.0, r.1, r.2, (h.cover r.0 r.1 (omega (arith, r.2, below))).open_plan)

least_is : (i : Instance) (k : ℕ) → IsDelay i k → ((plan : Plan) → IsValid i plan → k ≤ delay i plan) → IsLeastDelay i k
least_is i k d bound = record { plan = d.plan; valid = d.valid; reached = d.reached; bound = bound }

none_below : (i : Instance) (top : ℕ) (m : World) → IsInstance i → Holds i top m → open_names m ≡ [] → (plan : Plan) → IsValid i plan → known m ≤ delay i plan
none_below i top m ok h none plan valid =
    elim (cases_lt (delay i plan) (known m)) [
      | inl below ↦
          let there = (covers i top m ok h plan valid below).3.is_open in
          absurd (omega (arith, there.1, ap length none))
      | inr le ↦ le
    ]

answered : (i : Instance) (top : ℕ) (m : World) → IsInstance i → IsTop i top → Holds i top m → open_names m ≡ [] → IsLeastDelay i (known m) ⊎ HasNoPlan i
answered i top m ok first h none =
    let bound = none_below i top m ok h none in
    elim (known_reached i top m h) [
      | inr is ↦ inl (least_is i (known m) is bound)
      | inl e ↦ elim first [
        | inr is ↦ let P : ℕ → Type 0 = λ k. IsDelay i k in inl (least_is i (known m) (subst P (sym e) is) bound)
        | inl past ↦ inr (bound_is_none i ok (λ plan valid. omega (arith, bound plan valid, e, past)))
      ]
    ]

pub bounded : (i : Instance) (workers top : ℕ) (events : List Event) (result : Result Unit Illegal) (last : World) → IsInstance i → 1 ≤ workers → IsTop i top
    → AreHonest i (start workers top) events → Runs (start workers top) events result last → Bounds i top last
bounded i workers top events result last ok some first honest run =
    let h = runs_hold i top (start workers top) events result last ok run honest (start_holds i workers top ok some) in
    record {
      leaves = leaves_at i (known last) last.seats h.seats;
      reached = known_reached i top last h;
      cover = covers i top last ok h;
      none_open = answered i top last ok first h;
    }
