-- The search once all nodes of the certificate were gone through.
use Rattle.std.proofs.Common.{◌≡◌, ℕ, List, [], ◌∷◌, ◌++◌, Option, map, reverse, filter, refl, sym, ap, subst, ◌∙◌}
use Rattle.std.proofs.lemmas.List.{append-nil, reverse-reverse}
use Rattle.ttp_model.specs.Instance.{Instance}
use Rattle.tt_choice.specs.Branches.{root_choice}
use Rattle.certificate.specs.declared.node.Node.{Node}
use Rattle.certificate.specs.Cert.{Cert}
use Rattle.certificate.specs.Trees.{preorder}
use Rattle.tree_check.specs.Proofs.{Proves}
use Rattle.search_workers.specs.piece.Piece.{Piece}
use Rattle.search_workers.specs.Task.{Task, IsTask, choice_of, root_task}
use Rattle.search_workers.specs.declared.aims.Aims.{Aims}
use Rattle.search_workers.specs.declared.found.FoundPlan.{FoundPlan}
use Rattle.search_workers.specs.Searching.{aim_of, IsFound, IsSearching}
use Rattle.search_workers.proofs.Searching.{begun, one_only}
use Rattle.planner.specs.declared.begun.Begun.{Begun}
use Rattle.planner.specs.declared.replay.Replay.{Replay}
use Rattle.planner.specs.Begun.{nodes_of, is_open, outline, stays, IsBegun}
use Rattle.planner.specs.Replay.{ProveAll, Stands, IsReplay, GoesThrough}
use Rattle.planner.proofs.Nodes.{no_choice_left, no_node_without}

-- what proves the bound of a certificate are its nodes
pub nodes_prove : (i : Instance) (cert : Cert) → Proves i cert → ProveAll i cert.low (root_choice i ∷ []) (preorder cert.tree)
nodes_prove i cert proves = record { trees = cert.tree; are = refl; proofs = proves.tree }

-- before any node
pub root_stands : (i : Instance) (aims : Aims) (best : Option FoundPlan) (low aim : ℕ) (nodes : List Node) → IsTask i root_task → IsFound i best
    → aim ≡ aim_of i aims best
    → ProveAll i low (root_choice i ∷ []) nodes → Stands i aims best low aim [] [] [] (root_task ∷ []) nodes
root_stands i aims best low aim nodes is found at proofs = record {
  searching = begun i aims (root_task ∷ []) best (one_only (IsTask i) root_task is) found;
  aim_is = at;
  leaves_are = tt;
  proofs = proofs;
}

none_mapped : {X Y : Type 0} (f : X → Y) (xs : List X) → map f xs ≡ [] → xs ≡ []
none_mapped f [] none = refl
none_mapped f (x ∷ xs) none = absurd cc

none_reversed : {X : Type 0} (xs : List X) → reverse xs ≡ [] → xs ≡ []
none_reversed xs none = sym (reverse-reverse xs) ∙ ap reverse none

module _ (i : Instance) (aims : Aims) (best : Option FoundPlan) (low aim : ℕ) (pieces : List Piece) (tasks : List Task) (leaves : List Piece)
    (next : List Task) where
  -- no task comes next once no node does
  none_next : Stands i aims best low aim pieces tasks leaves next [] → next ≡ []
  none_next s = none_reversed next (none_mapped (choice_of i) (reverse next) (no_choice_left i low (map (choice_of i) (reverse next)) s.proofs))

  pub all_there : Stands i aims best low aim pieces tasks leaves next [] → IsSearching i aims pieces tasks best
  all_there s =
      let none = ap (λ (l : List Task). tasks ++ l) (none_next s) ∙ append-nil tasks in
      subst (λ (l : List Task). IsSearching i aims pieces l best) none s.searching

-- and one does as long as a node does
pub some_next : (i : Instance) (aims : Aims) (best : Option FoundPlan) (low aim : ℕ) (pieces : List Piece) (tasks : List Task) (leaves : List Piece)
    (one : Node) (nodes : List Node) → Stands i aims best low aim pieces tasks leaves [] (one ∷ nodes) → ⊥
some_next i aims best low aim pieces tasks leaves one nodes s = no_node_without i low one nodes s.proofs

-- ---- the search that is answered

module _ (i : Instance) (aims : Aims) (best : Option FoundPlan) (cert : Cert) (first last : Replay) (none : first.pieces.items ≡ [])
    (no_leaf : first.leaves.items ≡ [])
    (s : IsReplay i aims best cert.low first (preorder cert.tree)) (through : GoesThrough i first last (preorder cert.tree)) where
  ends : IsReplay i aims best cert.low last []
  ends = through.replay aims best cert.low [] (subst (IsReplay i aims best cert.low first) (sym (append-nil (preorder cert.tree))) s)

  kept_all : map outline (nodes_of last.pieces.items) ≡ map outline (filter (stays (aim_of i aims best)) (preorder cert.tree))
  kept_all =
      through.kept ∙ ap (λ (l : List Piece). map outline (nodes_of l) ++ map outline (filter (stays first.aim) (preorder cert.tree))) none
      ∙ ap (λ (n : ℕ). map outline (filter (stays n) (preorder cert.tree))) s.aim_is

  open_all : nodes_of last.leaves.items ≡ filter (is_open (aim_of i aims best)) (preorder cert.tree)
  open_all =
      through.open_leaves ∙ ap (λ (l : List Piece). nodes_of l ++ filter (is_open first.aim) (preorder cert.tree)) no_leaf
      ∙ ap (λ (n : ℕ). filter (is_open n) (preorder cert.tree)) s.aim_is

  pub begun_is : (b : Begun) → b.search.pieces.items ≡ last.pieces.items → b.search.tasks.items ≡ last.tasks.items → b.search.best ≡ best
      → b.leaves.items ≡ last.leaves.items → IsBegun i aims best cert b
  begun_is b pieces tasks best_is leaves = record {
    searching = rw (pieces, tasks, best_is) (all_there i aims best cert.low last.aim last.pieces.items last.tasks.items last.leaves.items last.next.items ends);
    best_is = best_is;
    kept = ap (λ (l : List Piece). map outline (nodes_of l)) pieces ∙ kept_all;
    open_leaves = ap nodes_of leaves ∙ open_all;
    leaves = rw (tasks, leaves) ends.leaves_are;
  }
