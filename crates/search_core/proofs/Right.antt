-- At each name of a tree one choice stands, and after honest events each piece is right for its own.
use Rattle.std.proofs.Common.{◌≡◌, ◌≢◌, ℕ, zero, suc, ◌+◌, ◌<◌, ◌≤◌, List, [], ◌∷◌, length, set, replicate, refl, sym, ap, subst, ◌∙◌, inl, inr, ◌⊎◌, arith, Result}
use Rattle.std.specs.List.{flat_map, Contains}
use Rattle.std.proofs.lemmas.List.Elements.{Contains-append_cases, Contains-append_left, Contains-append_right, Contains-push_cases}
use Rattle.ttp_model.specs.Instance.{Instance}
use Rattle.tt_choice.specs.Choice.{Choice}
use Rattle.search_trees.specs.declared.piece.Piece.{Piece}
use Rattle.search_trees.specs.Name.{Name}
use Rattle.search_trees.specs.Pieces.{names_of, StandsAt, IsRight, AreRight}
use Rattle.search_trees.specs.Account.{IsWholeTree}
use Rattle.search_core.specs.declared.event.Event.{Event}
use Rattle.search_core.specs.declared.event.Worked.{Worked}
use Rattle.search_core.specs.declared.reply.Reply.{Reply}
use Rattle.search_core.specs.declared.reply.Illegal.{Illegal}
use Rattle.search_core.specs.declared.event.Event.TheVariants.{Work}
use Rattle.search_core.specs.World.{Worker, World, idle_seat, worker_at, put, start, open_names, all_pieces, held_names}
use Rattle.search_core.specs.Turns.{Works, TakesName, LosesFirst, node_made}
use Rattle.search_core.specs.Steps.{Step, IsThere, Runs}
use Rattle.search_core.specs.Steps.Step.{pops, steals, looks, works, pushes, offers, rests}
use Rattle.search_core.specs.Steps.Runs.{ends, goes, stops}
use Rattle.search_core.specs.Bounds.{IsHonest, AreHonest}
use Rattle.search_core.proofs.Effects.{openw, open_weight, seat_other, there_still, piece_made}
use Rattle.search_trees.proofs.OneChoice.{piece_named, stands_somehow, stands_alone, stands_still}
use Rattle.search_core.proofs.Standing.{pieces_of, pieces_at}
use Rattle.search_core.proofs.Cover.{put_pieces, same_pieces, work_keeps, work_pieces}
use Rattle.search_core.proofs.Tree.{Balanced, tree_at, step_kept, start_balanced}
use Rattle.search_trees.proofs.Weights.{weigh, weigh-get_or, only, only-same, contained}

-- Pieces after an event: those before it, and the one that work makes.

pieces_back : (xs : List Worker) (w : ℕ) (t d : Worker) (x : Piece) → w < length xs → Contains (flat_map pieces_of (set xs w t)) x
    → Contains (flat_map pieces_of xs) x ⊎ Contains t.pieces x
pieces_back [] w t d x h there = inl there
pieces_back (s ∷ xs) zero t d x h there =
    elim (Contains-append_cases t.pieces (flat_map pieces_of xs) x there) [
      | inl here ↦ inr here
      | inr behind ↦ inl (Contains-append_right s.pieces (flat_map pieces_of xs) x behind)
    ]
pieces_back (s ∷ xs) (suc w) t d x h there =
    let less : w < length xs = omega arith in
    elim (Contains-append_cases s.pieces (flat_map pieces_of (set xs w t)) x there) [
      | inl here ↦ inl (Contains-append_left s.pieces (flat_map pieces_of xs) x here)
      | inr behind ↦ elim (pieces_back xs w t d x less behind) [
        | inl old ↦ inl (Contains-append_right s.pieces (flat_map pieces_of xs) x old)
        | inr new ↦ inr new
      ]
    ]

-- no piece is new
abbrev NoneNew : World → World → Type 0
NoneNew m n = (x : Piece) → Contains (all_pieces n) x → Contains (all_pieces m) x

pub none_new : (m : World) (w : ℕ) (t : Worker) → IsThere m w → t.pieces ≡ (worker_at m w).pieces → NoneNew m (put m w t)
none_new m w t there same x h =
    elim (pieces_back m.seats w t (idle_seat 0) x there h) [
      | inl old ↦ old
      | inr new ↦
          let P : List Piece → Type 0 = λ xs. Contains xs x in
          pieces_at m.seats w (idle_seat 0) x there (subst P same new)
    ]

-- the choice at a piece's name is the one that stood there before
still_right : (i : Instance) (m n : World) → IsWholeTree (all_pieces m) (open_names m) → IsWholeTree (all_pieces n) (open_names n)
    → ((x : Piece) → Contains (all_pieces m) x → Contains (all_pieces n) x) → AreRight i (all_pieces m) → (x : Piece) (c : Choice)
    → Contains (all_pieces m) x → StandsAt i (all_pieces n) x.name c → IsRight i c x.node
still_right i m n before after more right x c there stands =
    let r = stands_somehow i (all_pieces m) (open_names m) x.name before (Contains-append_left (names_of (all_pieces m)) (open_names m) x.name
    (piece_named (all_pieces m) x there)) in
    let same : r.0 ≡ c = stands_alone i (all_pieces n) (open_names n) x.name r.0 c after
    (stands_still i (all_pieces m) (all_pieces n) more x.name r.0 r.1) stands in
    let P : Choice → Type 0 = λ d. IsRight i d x.node in
    subst P same (right x r.0 there r.1)

kept_right : (i : Instance) (m n : World) → IsWholeTree (all_pieces m) (open_names m) → IsWholeTree (all_pieces n) (open_names n)
    → ((x : Piece) → Contains (all_pieces m) x → Contains (all_pieces n) x) → NoneNew m n → AreRight i (all_pieces m) → AreRight i (all_pieces n)
kept_right i m n before after more none right x c there stands = still_right i m n before after more right x c (none x there) stands

-- the task in hand is open
task_open : (m : World) (w : ℕ) (worked : Worked) (t : Worker) → IsThere m w → (p : Works (worker_at m w) worked t) → Contains (open_names m) p.name
task_open m w worked t there p =
    let s = worker_at m w in
    let hand : weigh (only p.name) (held_names s.hand) ≡ only p.name p.name + 0 = ap (λ x. weigh (only p.name) (held_names x)) p.hand in
    contained p.name (open_names m)
    (omega (arith, hand, only-same p.name, open_weight (only p.name) m, weigh-get_or (openw (only p.name)) m.seats w (idle_seat 0) there))

worked_right : (i : Instance) (m : World) (w : ℕ) (worked : Worked) (t : Worker) (there : IsThere m w) (p : Works (worker_at m w) worked t)
    → IsHonest i m (Work w worked)
    → IsWholeTree (all_pieces m) (open_names m) → IsWholeTree (all_pieces (put m w t)) (open_names (put m w t)) → AreRight i (all_pieces m)
    → AreRight i (all_pieces (put m w t))
worked_right i m w worked t there p honest before after right x c at stands =
    let n = put m w t in
    let s = worker_at m w in
    let piece = piece_made s t worked p in
    let more = work_keeps m w worked t there p in
    elim (pieces_back m.seats w t (idle_seat 0) x there at) [
      | inl old ↦ still_right i m n before after more right x c old stands
      | inr new ↦
          let P : List Piece → Type 0 = λ xs. Contains xs x in
          elim (Contains-push_cases s.pieces piece x (subst P (work_pieces s t worked p) new)) [
            | inl old ↦ still_right i m n before after more right x c (pieces_at m.seats w (idle_seat 0) x there old) stands
            | inr e ↦
                let r = stands_somehow i (all_pieces m) (open_names m) p.name before
                (Contains-append_right (names_of (all_pieces m)) (open_names m) p.name (task_open m w worked t there p)) in
                let Q : Piece → Type 0 = λ y. StandsAt i (all_pieces n) y.name c in
                let R : Piece → Type 0 = λ y. IsRight i c y.node in
                let S : Choice → Type 0 = λ d. IsRight i d (node_made worked) in
                let same : r.0 ≡ c = stands_alone i (all_pieces n) (open_names n) p.name r.0 c after
                (stands_still i (all_pieces m) (all_pieces n) more p.name r.0 r.1) (subst Q (sym e) stands) in
                subst R e (subst S same (honest.1 p.name r.0 p.hand r.1))
          ]
    ]

local_right : (i : Instance) (m : World) (w : ℕ) (t : Worker) → IsThere m w → t.pieces ≡ (worker_at m w).pieces
    → IsWholeTree (all_pieces m) (open_names m) → IsWholeTree (all_pieces (put m w t)) (open_names (put m w t)) → AreRight i (all_pieces m)
    → AreRight i (all_pieces (put m w t))
local_right i m w t there same before after right =
    kept_right i m (put m w t) before after (put_pieces m w t there (same_pieces (worker_at m w) t same)) (none_new m w t there same) right

stolen_right : (i : Instance) (m : World) (w v : ℕ) (name : Name) (t u : Worker) → IsThere m w → IsThere m v → w ≢ v
    → TakesName (worker_at m w) name t → LosesFirst (worker_at m v) name u
    → IsWholeTree (all_pieces m) (open_names m) → IsWholeTree (all_pieces (put (put m v u) w t)) (open_names (put (put m v u) w t))
    → AreRight i (all_pieces m) → AreRight i (all_pieces (put (put m v u) w t))
stolen_right i m w v name t u at from other r l before after right =
    let middle = put m v u in
    let lost : u.pieces ≡ (worker_at m v).pieces = ap (λ (x : Worker). x.pieces) l.after in
    let got : t.pieces ≡ (worker_at middle w).pieces = ap (λ (x : Worker). x.pieces) r.after ∙ ap (λ (x : Worker). x.pieces) (sym (seat_other m w v u other)) in
    let here = there_still m w v u at in
    kept_right i m (put middle w t) before after
    (λ x h. put_pieces middle w t here (same_pieces (worker_at middle w) t got) x (put_pieces m v u from (same_pieces (worker_at m v) u lost) x h))
    (λ x h. none_new m v u from lost x (none_new middle w t here got x h)) right

step_right : (i : Instance) (m : World) (event : Event) (n : World) (reply : Reply) → Step m event n reply → IsHonest i m event
    → IsWholeTree (all_pieces m) (open_names m) → IsWholeTree (all_pieces n) (open_names n) → AreRight i (all_pieces m) → AreRight i (all_pieces n)
step_right i m _ _ _ (pops w name t there p) honest before after right = local_right i m w t there (ap (λ (x : Worker). x.pieces) p.after) before after right
step_right i m _ _ _ (steals w v name t u at from other r l) honest before after right = stolen_right i m w v name t u at from other r l before after right
step_right i m _ _ _ (looks w t there p) honest before after right = local_right i m w t there (ap (λ (x : Worker). x.pieces) p.after) before after right
step_right i m _ _ _ (works w worked t there p) honest before after right = worked_right i m w worked t there p honest before after right
step_right i m _ _ _ (pushes w t there p) honest before after right = local_right i m w t there (ap (λ (x : Worker). x.pieces) p.after) before after right
step_right i m _ _ _ (offers w v t there p) honest before after right = local_right i m w t there (ap (λ (x : Worker). x.pieces) p.after) before after right
step_right i m _ _ _ (rests w t there p) honest before after right = local_right i m w t there (ap (λ (x : Worker). x.pieces) p.after) before after right

runs_right : (i : Instance) (m : World) (events : List Event) (result : Result Unit Illegal) (last : World) → Runs m events result last → AreHonest i m events
    → ((g : Name → ℕ) → Balanced g m.seats) → AreRight i (all_pieces m) → AreRight i (all_pieces last)
runs_right i _ _ _ _ (ends m) honest tree right = right
runs_right i _ _ _ _ (goes m event reply n step events result last run) honest tree right =
    let now = honest n reply step in
    let later : (g : Name → ℕ) → Balanced g n.seats = λ g. step_kept g m event n reply step (tree g) in
    runs_right i n events result last run now.1 later (step_right i m event n reply step now.0 (tree_at m tree) (tree_at n later) right)
runs_right i _ _ _ _ (stops m event fault events refused) honest tree right = right

none_made : (top count : ℕ) → length (flat_map pieces_of (replicate count (idle_seat top))) ≡ 0
none_made top zero = refl
none_made top (suc count) = none_made top count

empty_at_first : (workers top : ℕ) → 1 ≤ workers → length (all_pieces (start workers top)) ≡ 0
empty_at_first zero top some = absurd (omega arith)
empty_at_first (suc count) top some = none_made top count

no_pieces : (i : Instance) (workers top : ℕ) → 1 ≤ workers → AreRight i (all_pieces (start workers top))
no_pieces i workers top some x c there stands = absurd (omega (arith, there.1, empty_at_first workers top some))

pub pieces_right : (i : Instance) (workers top : ℕ) (events : List Event) (result : Result Unit Illegal) (last : World) → 1 ≤ workers
    → AreHonest i (start workers top) events → Runs (start workers top) events result last → AreRight i (all_pieces last)
pieces_right i workers top events result last some honest run =
    runs_right i (start workers top) events result last run honest (λ g. start_balanced g workers top some) (no_pieces i workers top some)
