-- After any events the pieces' names and the open names are those of a tree.
use Rattle.std.proofs.Common.{◌≡◌, ℕ, zero, suc, ◌+◌, ◌≤◌, List, [], ◌∷◌, ◌++◌, replicate, refl, ap, ◌∙◌, arith, Result}
use Rattle.search_trees.specs.declared.piece.Piece.{Piece}
use Rattle.search_trees.specs.Name.{Name, root_name}
use Rattle.search_trees.specs.Pieces.{names_below, names_of, all_below}
use Rattle.search_trees.specs.Account.{IsWholeTree}
use Rattle.search_core.specs.declared.event.Event.{Event}
use Rattle.search_core.specs.declared.event.Worked.{Worked}
use Rattle.search_core.specs.declared.reply.Reply.{Reply}
use Rattle.search_core.specs.declared.reply.Illegal.{Illegal}
use Rattle.search_core.specs.World.{Worker, World, idle_seat, worker_at, put, start, open_names, all_pieces}
use Rattle.search_core.specs.Turns.{Works}
use Rattle.search_core.specs.Steps.{Step, IsThere, Runs}
use Rattle.search_core.specs.Steps.Step.{pops, steals, looks, works, pushes, offers, rests}
use Rattle.search_core.specs.Steps.Runs.{ends, goes, stops}
use Rattle.search_trees.proofs.Weights.{weigh, weigh-append, same_names}
use Rattle.search_core.proofs.Effects.{openw, namew, beloww, open_weight, name_weight, below_weight, put_weight, piece_made, pops_open, looks_open, works_open, pushes_open, offers_open, rests_open, steals_open, steals_pieces}

-- by one weight, workers have what a tree has
abbrev pub Balanced : (Name → ℕ) → List Worker → Type 0
Balanced g seats = weigh (namew g) seats + weigh (openw g) seats ≡ g root_name + weigh (beloww g) seats

-- a worker's change that leaves its pieces and open names
kept : (g : Name → ℕ) (m : World) (w : ℕ) (t : Worker) → IsThere m w → t.pieces ≡ (worker_at m w).pieces → openw g t ≡ openw g (worker_at m w)
    → Balanced g m.seats → Balanced g (put m w t).seats
kept g m w t there pieces opens before =
    let names : namew g t ≡ namew g (worker_at m w) = ap (weigh (λ (piece : Piece). g piece.name)) pieces in
    let below : beloww g t ≡ beloww g (worker_at m w) = ap (weigh (λ (piece : Piece). weigh g (names_below piece))) pieces in
    omega (arith, before, opens, names, below, put_weight (namew g) m w t there, put_weight (openw g) m w t there, put_weight (beloww g) m w t there)

-- a task becomes a piece
worked_kept : (g : Name → ℕ) (m : World) (w : ℕ) (worked : Worked) (t : Worker) → IsThere m w → Works (worker_at m w) worked t → Balanced g m.seats
    → Balanced g (put m w t).seats
worked_kept g m w worked t there h before =
    let s = worker_at m w in
    let piece = piece_made s t worked h in
    let pieces : t.pieces ≡ s.pieces ++ piece ∷ [] = ap (λ (x : Worker). x.pieces) h.after in
    let names : namew g t ≡ namew g s + (g h.name + 0) =
    ap (weigh (λ (x : Piece). g x.name)) pieces ∙ weigh-append (λ (x : Piece). g x.name) s.pieces (piece ∷ []) in
    let below : beloww g t ≡ beloww g s + (weigh g (names_below piece) + 0) =
    ap (weigh (λ (x : Piece). weigh g (names_below x))) pieces ∙ weigh-append (λ (x : Piece). weigh g (names_below x)) s.pieces (piece ∷ []) in
    omega (
      arith,
      before,
      names,
      below,
      works_open g s t worked h,
      put_weight (namew g) m w t there,
      put_weight (openw g) m w t there,
      put_weight (beloww g) m w t there,
    )

pub step_kept : (g : Name → ℕ) (m : World) (event : Event) (n : World) (reply : Reply) → Step m event n reply → Balanced g m.seats → Balanced g n.seats
step_kept g m _ _ _ (pops w name t there h) before = kept g m w t there (ap (λ (x : Worker). x.pieces) h.after) (pops_open g (worker_at m w) t name h) before
step_kept g m _ _ _ (steals w v name t u at from other receives loses) before =
    omega (
      arith,
      before,
      steals_open g m w v name t u at from other receives loses,
      steals_pieces (weigh (λ (piece : Piece). g piece.name)) m w v name t u at from other receives loses,
      steals_pieces (weigh (λ (piece : Piece). weigh g (names_below piece))) m w v name t u at from other receives loses,
    )
step_kept g m _ _ _ (looks w t there h) before = kept g m w t there (ap (λ (x : Worker). x.pieces) h.after) (looks_open g (worker_at m w) t m.best h) before
step_kept g m _ _ _ (works w worked t there h) before = worked_kept g m w worked t there h before
step_kept g m _ _ _ (pushes w t there h) before = kept g m w t there (ap (λ (x : Worker). x.pieces) h.after) (pushes_open g (worker_at m w) t h) before
step_kept g m _ _ _ (offers w v t there h) before = kept g m w t there (ap (λ (x : Worker). x.pieces) h.after) (offers_open g (worker_at m w) t v h) before
step_kept g m _ _ _ (rests w t there h) before = kept g m w t there (ap (λ (x : Worker). x.pieces) h.after) (rests_open g (worker_at m w) t h) before

runs_kept : (g : Name → ℕ) (m : World) (events : List Event) (result : Result Unit Illegal) (last : World) → Runs m events result last
    → Balanced g m.seats → Balanced g last.seats
runs_kept g _ _ _ _ (ends m) before = before
runs_kept g _ _ _ _ (goes m event reply n step events result last run) before =
    runs_kept g n events result last run (step_kept g m event n reply step before)
runs_kept g _ _ _ _ (stops m event fault events refused) before = before

-- workers that have nothing
nothing : (f : Worker → ℕ) (top count : ℕ) → f (idle_seat top) ≡ 0 → weigh f (replicate count (idle_seat top)) ≡ 0
nothing f top zero h = refl
nothing f top (suc count) h = omega (arith, h, nothing f top count h)

pub start_balanced : (g : Name → ℕ) (workers top : ℕ) → 1 ≤ workers → Balanced g (start workers top).seats
start_balanced g zero top h = absurd (omega arith)
start_balanced g (suc count) top h =
    omega (arith, nothing (namew g) top count refl, nothing (openw g) top count refl, nothing (beloww g) top count refl)

pub tree_at : (m : World) → ((g : Name → ℕ) → Balanced g m.seats) → IsWholeTree (all_pieces m) (open_names m)
tree_at m balanced =
    same_names (names_of (all_pieces m) ++ open_names m) (root_name ∷ all_below (all_pieces m))
    (λ g. omega (arith, balanced g, weigh-append g (names_of (all_pieces m)) (open_names m), name_weight g m, open_weight g m, below_weight g m))

pub whole_tree : (workers top : ℕ) (events : List Event) (result : Result Unit Illegal) (last : World) → 1 ≤ workers
    → Runs (start workers top) events result last → IsWholeTree (all_pieces last) (open_names last)
whole_tree workers top events result last some run =
    tree_at last (λ g. runs_kept g (start workers top) events result last run (start_balanced g workers top some))
