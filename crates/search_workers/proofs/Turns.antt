-- What a turn adds to a run's account, its goals and its offers.
use Rattle.std.proofs.Common.{◌≡◌, ℕ, ◌≤◌, List, [], ◌∷◌, ◌++◌, get_or, All, Contains, Some, inl, inr, ⊎_elim, sym, ap, ◌∙◌, subst, append_assoc, arith}
use Rattle.std.specs.Prelude.{IsPermutation}
use Rattle.std.proofs.lemmas.List.{append-nil, map-append}
use Rattle.std.proofs.lemmas.Grind.{flat_map-append}
use Rattle.std.proofs.lemmas.List.Elements.{All-nil, All-push, All-append, All-weaker, All-contains, All-head, All-tail, All-contains_itself, Contains-append_right}
use Rattle.std.proofs.lemmas.List.Sorted.{IsPermutation-trans, IsPermutation-cons, IsPermutation-append, IsPermutation-append_left, IsPermutation-append_right, IsPermutation-append_comm}
use Rattle.ttp_model.specs.Instance.{Instance}
use Rattle.certificate.specs.declared.node.Node.{Node}
use Rattle.certificate.specs.declared.node.Node.TheVariants as node
use Rattle.branch_tree.specs.piece.Piece.{Piece}
use Rattle.branch_tree.specs.Task.{Task, IsTask}
use Rattle.incumbent.specs.declared.word.Watch.{Watch}
use Rattle.incumbent.specs.Watch.{seen, offers}
use Rattle.steal_pool.specs.declared.hand.Hand.{Hand}
use Rattle.steal_pool.specs.Hand.{pushed, taken, IsSameHand}
use Rattle.steal_pool.proofs.Orders.{then_same, first_same}
use Rattle.search_workers.specs.declared.aims.Aims.{Aims}
use Rattle.search_workers.specs.declared.report.Rest.{Rest}
use Rattle.search_workers.specs.declared.report.Rest.TheVariants.{Nothing}
use Rattle.search_workers.specs.declared.run.Run.{Run}
use Rattle.search_workers.specs.Tasks.{Turn, IsTurn, tasks_of, all_born, born}
use Rattle.search_workers.specs.Goals.{goal_of, goals_at, goals_of, AreGoals, Follows, IsBelowGoals, IsReached, NeverRise}
use Rattle.search_workers.specs.Best.{IsFoundDelay, IsBestOf, OffersBest}
use Rattle.search_workers.specs.Report.{HasAccount, held, unpushed}
use Rattle.search_workers.specs.Run.{KeepsBest, FindsBest, Pushes}

pub same_hand_still : {J : Type 0} (a b c : Hand J) → IsSameHand a b → IsSameHand b c → IsSameHand a c
same_hand_still a b c h k = record { number = k.number ∙ h.number; own = k.own ∙ h.own; deques = k.deques ∙ h.deques; out = k.out ∙ h.out }

-- one more at the end
pub taken_more : {X : Type 0} (t : X) (new old begun took : List X) → IsPermutation new (t ∷ old) → IsPermutation old (begun ++ took)
    → IsPermutation new (begun ++ (took ++ t ∷ []))
taken_more t new old begun took h k =
    IsPermutation-trans _ _ _ h (IsPermutation-trans _ _ _ (IsPermutation-cons t old (begun ++ took) k)
    (then_same _ _ _ (IsPermutation-append_comm (t ∷ []) (begun ++ took)) (append_assoc begun took (t ∷ []))))

module _ {J : Type 0} (i : Instance) (begun : Hand J) where
  -- a task was taken, and left or kept in hand
  pub account_leaves : (old new : Hand J) (pieces : List Piece) (t : Task) (spared after : List Task) (rest : Rest)
      → IsPermutation (taken new) (t ∷ taken old) → pushed new ≡ pushed old → IsTask i t
      → held after rest ≡ spared ++ t ∷ [] → unpushed rest ≡ [] → HasAccount i begun old pieces spared Nothing → HasAccount i begun new pieces after rest
  account_leaves old new pieces t spared after rest more same is held_is none a = record {
    turns = a.turns;
    each = a.each;
    pieces = a.pieces;
    took = a.took ++ t ∷ [];
    takes = taken_more t (taken new) (taken old) (taken begun) a.took more a.takes;
    gave = a.gave;
    pushes = same ∙ a.pushes;
    account = record {
      took = then_same _ _ _ (IsPermutation-append_left (t ∷ []) a.took (tasks_of a.turns ++ spared) a.account.took)
          (append_assoc (tasks_of a.turns) spared (t ∷ []) ∙ ap (λ (l : List Task). tasks_of a.turns ++ l) (sym held_is));
      gave = then_same _ _ _ a.account.gave (ap (λ (l : List Task). a.gave ++ l) (sym none));
    };
    one_of = subst (All (IsTask i)) (sym held_is) (All-push (IsTask i) spared t a.one_of is);
    others_of = subst (All (IsTask i)) (sym none) (All-nil (IsTask i));
  }

  -- and worked; what its branch gave was pushed, or is left
  pub account_works : (old mid new : Hand J) (pieces : List Piece) (turn : Turn) (spared : List Task) (rest : Rest) → held spared rest ≡ spared
      → IsPermutation (taken mid) (turn.task ∷ taken old) → pushed mid ≡ pushed old
      → taken new ≡ taken mid → Pushes (pushed mid) (pushed new) (born i turn) (unpushed rest) → IsTurn i turn → All (IsTask i) (unpushed rest)
      → HasAccount i begun old pieces spared Nothing → HasAccount i begun new (pieces ++ turn.piece ∷ []) spared rest
  account_works old mid new pieces turn spared rest none more same still p is left a =
      let one = turn.task ∷ [] in
      let tasks = map-append (λ (t : Turn). t.task) a.turns (turn ∷ []) in
      let grown = flat_map-append (born i) a.turns (turn ∷ []) ∙ ap (λ (l : List Task). all_born i a.turns ++ l) (append-nil (born i turn)) in
      let behind = then_same _ _ _ (IsPermutation-append_left one a.took (tasks_of a.turns ++ spared) a.account.took)
      (append_assoc (tasks_of a.turns) spared one) in
      let turned = IsPermutation-append_right (tasks_of a.turns) _ _ (IsPermutation-append_comm spared one) in
      let gave = then_same _ _ _ a.account.gave (append-nil a.gave) in
      record {
        turns = a.turns ++ turn ∷ [];
        each = All-push (IsTurn i) a.turns turn a.each is;
        pieces = map-append (λ (t : Turn). t.piece) a.turns (turn ∷ []) ∙ ap (λ (l : List Piece). l ++ turn.piece ∷ []) a.pieces;
        took = a.took ++ one;
        takes = first_same _ _ _ still (taken_more turn.task (taken mid) (taken old) (taken begun) a.took more a.takes);
        gave = a.gave ++ p.gave;
        pushes = p.pushes ∙ (ap (λ (l : List Task). l ++ p.gave) (same ∙ a.pushes) ∙ append_assoc (pushed begun) a.gave p.gave);
        account = record {
          took = then_same _ _ _ (IsPermutation-trans _ _ _ behind turned)
              (sym (append_assoc (tasks_of a.turns) one spared) ∙ (ap (λ (l : List Task). l ++ spared) (sym tasks) ∙ ap
              (λ (l : List Task). tasks_of (a.turns ++ turn ∷ []) ++ l) (sym none)));
          gave =
              first_same _ _ _ grown (then_same _ _ _ (IsPermutation-append (all_born i a.turns) a.gave (born i turn) (p.gave ++ unpushed rest)
              gave p.all) (sym (append_assoc a.gave p.gave (unpushed rest))));
        };
        one_of = subst (All (IsTask i)) (sym none) a.one_of;
        others_of = left;
      }

-- ---- goals

falls_more : (goals : List ℕ) (goal : ℕ) → NeverRise goals → All (λ x. goal ≤ x) goals → NeverRise (goals ++ goal ∷ [])
falls_more [] goal h k = (All-nil (λ later. later ≤ goal), tt)
falls_more (x ∷ xs) goal h k =
    (All-push (λ later. later ≤ x) xs goal h.0 (All-head (λ y. goal ≤ y) x xs k), falls_more xs goal h.1 (All-tail (λ y. goal ≤ y) x xs k))

under : (i : Instance) (aims : Aims) (w : Watch) (goal x : ℕ) → IsBelowGoals i aims w goal → IsReached i aims w x → goal ≤ x
under i aims w goal x h r = elim r.known [
  | inl e ↦ let le = All-contains (λ y. goal ≤ goal_of i aims y) (seen w) r.value h.0 e in omega (arith, le, r.at_most)
  | inr e ↦ let le = All-contains (λ y. goal ≤ goal_of i aims y) (offers w) r.value h.1 e in omega (arith, le, r.at_most)
]

contains_below : (n : ℕ) (xs ys : List ℕ) → ((x : ℕ) → Contains xs x → Contains ys x) → All (λ y. n ≤ y) ys → All (λ y. n ≤ y) xs
contains_below n xs ys more h = λ k d lt. All-contains (λ y. n ≤ y) ys (get_or xs k d) h (more (get_or xs k d) (All-contains_itself xs k d lt))

module _ (i : Instance) (aims : Aims) (begun old new : Watch) (before : Follows begun old) (after : Follows old new) where
  pub reached_still : (x : ℕ) → IsReached i aims old x → IsReached i aims new x
  reached_still x r = record {
    value = r.value;
    known =
        ⊎_elim (λ (e : Contains (seen old) r.value). inl (after.sees r.value e)) (λ (e : Contains (offers old) r.value). inr (after.offered r.value e)) r.known;
    at_most = r.at_most;
  }

  goals_of_more : (x : ℕ) (xs ys : List ℕ) → ((y : ℕ) → Contains xs y → Contains ys y) → All (λ y. x ≤ goal_of i aims y) ys → All (λ y. x ≤ goal_of i aims y) xs
  goals_of_more x xs ys more h = λ k d lt. All-contains (λ y. x ≤ goal_of i aims y) ys (get_or xs k d) h (more (get_or xs k d) (All-contains_itself xs k d lt))

  below_begun : (x : ℕ) → IsBelowGoals i aims old x → IsBelowGoals i aims begun x
  below_begun x h = (goals_of_more x (seen begun) (seen old) before.sees h.0, goals_of_more x (offers begun) (offers old) before.offered h.1)

  -- the goals of one more node
  goals_grow : (goals : List ℕ) (made : Node) → AreGoals i aims begun old goals → All (IsBelowGoals i aims old) (goals_at made)
      → All (IsReached i aims new) (goals_at made) → AreGoals i aims begun new (goals ++ goals_at made)
  goals_grow goals (node.Branch b) h below reached =
      subst (AreGoals i aims begun new) (sym (append-nil goals))
      (record { falls = h.falls; below = h.below; reached = All-weaker (IsReached i aims old) (IsReached i aims new) reached_still goals h.reached })
  goals_grow goals (node.Leaf leaf) h below reached =
      let low = All-head (IsBelowGoals i aims old) leaf.goal [] below in
      record {
        falls = falls_more goals leaf.goal h.falls (All-weaker (IsReached i aims old) (λ x. leaf.goal ≤ x) (λ x r. under i aims old leaf.goal x low r) goals h.reached);
        below = All-push (IsBelowGoals i aims begun) goals leaf.goal h.below (below_begun leaf.goal low);
        reached = All-append (IsReached i aims new) goals (leaf.goal ∷ []) (All-weaker (IsReached i aims old) (IsReached i aims new) reached_still goals h.reached) reached;
      }

  pub goals_still : (goals : List ℕ) → AreGoals i aims begun old goals → AreGoals i aims begun new goals
  goals_still goals h = record { falls = h.falls; below = h.below; reached = All-weaker (IsReached i aims old) (IsReached i aims new) reached_still goals h.reached }

  pub goals_more : (pieces all : List Piece) (piece : Piece) → all ≡ pieces ++ piece ∷ [] → AreGoals i aims begun old (goals_of pieces)
      → All (IsBelowGoals i aims old) (goals_at piece.node) → All (IsReached i aims new) (goals_at piece.node) → AreGoals i aims begun new (goals_of all)
  goals_more pieces all piece e h below reached =
      let grown = ap goals_of e ∙ (flat_map-append (λ (p : Piece). goals_at p.node) pieces (piece ∷ [])
      ∙ ap (λ (l : List ℕ). goals_of pieces ++ l) (append-nil (goals_at piece.node))) in
      subst (AreGoals i aims begun new) (sym grown) (goals_grow (goals_of pieces) piece.node h below reached)

-- ---- the best plan

module _ {J : Type 0} (i : Instance) (begun : Watch) (old new : Run J) where
  pub best_still : KeepsBest old new → OffersBest i begun old.watch old.best → OffersBest i begun new.watch new.best
  best_still k h = record {
    made = h.made;
    offered = k.offered ∙ h.offered;
    plans = h.plans;
    best = subst (IsBestOf i h.made) (sym k.best) h.best;
  }

  pub best_found : FindsBest i old new → OffersBest i begun old.watch old.best → OffersBest i begun new.watch new.best
  best_found f h =
      let P : ℕ → Type 0 = λ value. f.found.delay ≤ value in
      let all : All P (offers begun ++ h.made) = subst (All P) h.offered f.least in
      let own : All P h.made = contains_below f.found.delay h.made (offers begun ++ h.made) (λ x there. Contains-append_right (offers begun) h.made x there) all in
      let is : IsBestOf i (h.made ++ f.found.delay ∷ []) (Some f.found) = (f.is, All-push P h.made f.found.delay own (omega arith)) in
      record {
        made = h.made ++ f.found.delay ∷ [];
        offered = f.offered ∙ (ap (λ (l : List ℕ). l ++ f.found.delay ∷ []) h.offered ∙ append_assoc (offers begun) h.made (f.found.delay ∷ []));
        plans = All-push (IsFoundDelay i) h.made f.found.delay h.plans (record { plan = f.found.plan; is = f.is });
        best = subst (IsBestOf i (h.made ++ f.found.delay ∷ [])) (sym f.best) is;
      }
