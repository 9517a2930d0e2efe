-- What an event changes of the open names and of the pieces, by weights.
use Rattle.std.proofs.Common.{◌≡◌, ◌≢◌, ℕ, ◌+◌, List, [], ◌∷◌, ◌++◌, refl, ap, ◌∙◌, arith}
use Rattle.std.proofs.lemmas.List.{get_or-set_other, length-set}
use Rattle.search_trees.specs.declared.piece.Piece.{Piece}
use Rattle.search_trees.specs.Name.{Name, child_names}
use Rattle.search_trees.specs.Pieces.{names_below, names_of, all_below}
use Rattle.search_core.specs.declared.event.Worked.{Worked}
use Rattle.search_core.specs.declared.event.Worked.TheVariants.{Split, Closed, Found}
use Rattle.search_core.specs.World.{Worker, World, idle_seat, worker_at, put, held_names, open_of, open_names, all_pieces}
use Rattle.search_core.specs.Turns.{Pops, LosesFirst, TakesName, Looks, Works, Pushes, Offers, Rests, IsFitting, node_made, hand_after, children_left}
use Rattle.search_core.specs.Steps.{IsThere}
use Rattle.search_trees.proofs.Weights.{weigh, weigh-append, weigh-map, weigh-flat_map, weigh-set}

pub weigh-same : {A : Type 0} (f g : A → ℕ) (xs : List A) → ((x : A) → f x ≡ g x) → weigh f xs ≡ weigh g xs
weigh-same f g [] h = refl
weigh-same f g (x ∷ xs) h = omega (arith, h x, weigh-same f g xs h)

-- what the open names of a worker weigh
abbrev pub openw : (Name → ℕ) → Worker → ℕ
openw g s = weigh g s.deque + weigh g (held_names s.hand) + weigh g s.left

-- the names of its pieces, and those below them
abbrev pub namew : (Name → ℕ) → Worker → ℕ
namew g s = weigh (λ (piece : Piece). g piece.name) s.pieces

abbrev pub beloww : (Name → ℕ) → Worker → ℕ
beloww g s = weigh (λ (piece : Piece). weigh g (names_below piece)) s.pieces

pub open_weight : (g : Name → ℕ) (m : World) → weigh g (open_names m) ≡ weigh (openw g) m.seats
open_weight g m =
    weigh-flat_map g open_of m.seats
    ∙ weigh-same (λ (s : Worker). weigh g (open_of s)) (openw g) m.seats
    (λ s. omega (arith, weigh-append g (s.deque ++ held_names s.hand) s.left, weigh-append g s.deque (held_names s.hand)))

pub name_weight : (g : Name → ℕ) (m : World) → weigh g (names_of (all_pieces m)) ≡ weigh (namew g) m.seats
name_weight g m =
    weigh-map g (λ (piece : Piece). piece.name) (all_pieces m)
    ∙ weigh-flat_map (λ (piece : Piece). g piece.name) (λ (s : Worker). s.pieces) m.seats

pub below_weight : (g : Name → ℕ) (m : World) → weigh g (all_below (all_pieces m)) ≡ weigh (beloww g) m.seats
below_weight g m =
    weigh-flat_map g names_below (all_pieces m)
    ∙ weigh-flat_map (λ (piece : Piece). weigh g (names_below piece)) (λ (s : Worker). s.pieces) m.seats

pub put_weight : (f : Worker → ℕ) (m : World) (w : ℕ) (t : Worker) → IsThere m w → weigh f (put m w t).seats + f (worker_at m w) ≡ weigh f m.seats + f t
put_weight f m w t there = weigh-set f m.seats w t (idle_seat 0) there

-- another worker is as it was
pub seat_other : (m : World) (w v : ℕ) (u : Worker) → w ≢ v → worker_at (put m v u) w ≡ worker_at m w
seat_other m w v u other = get_or-set_other m.seats v w u (idle_seat 0) other

pub there_still : (m : World) (w v : ℕ) (u : Worker) → IsThere m w → IsThere (put m v u) w
there_still m w v u there = omega (arith, length-set m.seats v u)

-- after work the hand holds the names below the piece
pub hand_below : (name : Name) (seen : ℕ) (worked : Worked) → IsFitting seen worked
    → held_names (hand_after name worked) ≡ names_below (record { name = name; node = node_made worked })
hand_below name seen (Split kind k) fits = ap (child_names name) fits.1
hand_below name seen (Closed leaf) fits = refl
hand_below name seen (Found leaf v) fits = refl

pub names_left : (names : List Name) → held_names (children_left names) ≡ names
names_left [] = refl
names_left (name ∷ names) = refl

-- the piece that work makes
abbrev pub piece_made : (s t : Worker) (worked : Worked) → Works s worked t → Piece
piece_made s t worked h = record { name = h.name; node = node_made worked }

-- Each event's change to its worker's open names.

pub pops_open : (g : Name → ℕ) (s t : Worker) (name : Name) → Pops s name t → openw g t ≡ openw g s
pops_open g s t name h =
    let deque : weigh g s.deque ≡ weigh g h.front + (g name + 0) = ap (weigh g) h.deque ∙ weigh-append g h.front (name ∷ []) in
    let hand : weigh g (held_names s.hand) ≡ 0 = ap (λ x. weigh g (held_names x)) h.hand in
    let after : openw g t ≡ weigh g h.front + (g name + 0) + weigh g s.left = ap (openw g) h.after in
    omega (arith, deque, hand, after)

pub loses_open : (g : Name → ℕ) (s u : Worker) (name : Name) → LosesFirst s name u → openw g u + g name ≡ openw g s
loses_open g s u name h =
    let deque : weigh g s.deque ≡ g name + weigh g h.rest = ap (weigh g) h.deque in
    let after : openw g u ≡ weigh g h.rest + weigh g (held_names s.hand) + weigh g s.left = ap (openw g) h.after in
    omega (arith, deque, after)

pub receives_open : (g : Name → ℕ) (s t : Worker) (name : Name) → TakesName s name t → openw g t ≡ openw g s + g name
receives_open g s t name h =
    let hand : weigh g (held_names s.hand) ≡ 0 = ap (λ x. weigh g (held_names x)) h.hand in
    let after : openw g t ≡ weigh g s.deque + (g name + 0) + weigh g s.left = ap (openw g) h.after in
    omega (arith, hand, after)

pub looks_open : (g : Name → ℕ) (s t : Worker) (best : ℕ) → Looks s best t → openw g t ≡ openw g s
looks_open g s t best h = ap (openw g) h.after

pub works_open : (g : Name → ℕ) (s t : Worker) (worked : Worked) (h : Works s worked t)
    → openw g t + g h.name ≡ openw g s + weigh g (names_below (piece_made s t worked h))
works_open g s t worked h =
    let hand : weigh g (held_names s.hand) ≡ g h.name + 0 = ap (λ x. weigh g (held_names x)) h.hand in
    let below : weigh g (held_names (hand_after h.name worked)) ≡ weigh g (names_below (piece_made s t worked h)) = ap (weigh g)
    (hand_below h.name s.seen worked h.fits) in
    let after : openw g t ≡ weigh g s.deque + weigh g (held_names (hand_after h.name worked)) + weigh g s.left = ap (openw g) h.after in
    omega (arith, hand, below, after)

pub pushes_open : (g : Name → ℕ) (s t : Worker) → Pushes s t → openw g t ≡ openw g s
pushes_open g s t h =
    let hand : weigh g (held_names s.hand) ≡ g h.name + weigh g h.others = ap (λ x. weigh g (held_names x)) h.hand in
    let left : weigh g (held_names (children_left h.others)) ≡ weigh g h.others = ap (weigh g) (names_left h.others) in
    let after : openw g t ≡ weigh g (s.deque ++ h.name ∷ []) + weigh g (held_names (children_left h.others)) + weigh g s.left = ap (openw g) h.after in
    omega (arith, hand, left, after, weigh-append g s.deque (h.name ∷ []))

pub offers_open : (g : Name → ℕ) (s t : Worker) (v : ℕ) → Offers s v t → openw g t ≡ openw g s
offers_open g s t v h =
    let hand : weigh g (held_names s.hand) ≡ 0 = ap (λ x. weigh g (held_names x)) h.hand in
    let after : openw g t ≡ weigh g s.deque + 0 + weigh g s.left = ap (openw g) h.after in
    omega (arith, hand, after)

pub rests_open : (g : Name → ℕ) (s t : Worker) → Rests s t → openw g t ≡ openw g s
rests_open g s t h =
    let hand : weigh g (held_names s.hand) ≡ g h.name + weigh g h.others = ap (weigh g) h.hand in
    let left : weigh g (held_names (children_left h.others)) ≡ weigh g h.others = ap (weigh g) (names_left h.others) in
    let after : openw g t ≡ weigh g s.deque + weigh g (held_names (children_left h.others)) + weigh g (s.left ++ h.name ∷ []) = ap (openw g) h.after in
    omega (arith, hand, left, after, weigh-append g s.left (h.name ∷ []))

-- Steals move one name from one worker to another.

pub steals_open : (g : Name → ℕ) (m : World) (w v : ℕ) (name : Name) (t u : Worker) → IsThere m w → IsThere m v → w ≢ v
    → TakesName (worker_at m w) name t → LosesFirst (worker_at m v) name u
    → weigh (openw g) (put (put m v u) w t).seats ≡ weigh (openw g) m.seats
steals_open g m w v name t u at from other receives loses =
    let first = put_weight (openw g) m v u from in
    let second = put_weight (openw g) (put m v u) w t (there_still m w v u at) in
    let same : openw g (worker_at (put m v u) w) ≡ openw g (worker_at m w) = ap (openw g) (seat_other m w v u other) in
    omega (arith, first, second, same, loses_open g (worker_at m v) u name loses, receives_open g (worker_at m w) t name receives)

-- whatever the pieces of workers weigh, a steal leaves it
pub steals_pieces : (f : List Piece → ℕ) (m : World) (w v : ℕ) (name : Name) (t u : Worker) → IsThere m w → IsThere m v → w ≢ v
    → TakesName (worker_at m w) name t → LosesFirst (worker_at m v) name u
    → weigh (λ (s : Worker). f s.pieces) (put (put m v u) w t).seats ≡ weigh (λ (s : Worker). f s.pieces) m.seats
steals_pieces f m w v name t u at from other receives loses =
    let weight : Worker → ℕ = λ s. f s.pieces in
    let first = put_weight weight m v u from in
    let second = put_weight weight (put m v u) w t (there_still m w v u at) in
    let same : weight (worker_at (put m v u) w) ≡ weight (worker_at m w) = ap weight (seat_other m w v u other) in
    let lost : weight u ≡ weight (worker_at m v) = ap weight loses.after in
    let got : weight t ≡ weight (worker_at m w) = ap weight receives.after in
    omega (arith, first, second, same, lost, got)
