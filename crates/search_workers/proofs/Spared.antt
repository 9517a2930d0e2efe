-- Tasks that needn't be worked, as pieces are made.
use Rattle.std.proofs.Common.{◌≡◌, ℕ, ◌+◌, ◌≤◌, List, [], ◌∷◌, ◌++◌, Option, None, Some, IfSome, All, arith, subst, ap, ◌∙◌}
use Rattle.std.proofs.lemmas.List.{append-nil}
use Rattle.std.proofs.lemmas.Grind.{flat_map-append}
use Rattle.std.proofs.lemmas.List.Elements.{All-weaker, All-nil, All-cons, All-head, All-tail}
use Rattle.ttp_model.specs.Instance.{Instance}
use Rattle.branch_tree.specs.piece.Piece.{Piece}
use Rattle.branch_tree.specs.Task.{Task}
use Rattle.tt_choice.specs.declared.decision.Decision.{Decision}
use Rattle.used_decisions.specs.Ways.{Way}
use Rattle.used_decisions.specs.Needs.{HoldsAt, HoldUpTo}
use Rattle.used_decisions.specs.declared.needs.Needs.{Needs}
use Rattle.search_workers.specs.Goals.{goals_at, goals_of}
use Rattle.search_workers.specs.Report.{IsReachedBy, IsSpared, AreSpared}

all_front : {X : Type 0} (P : X → Type 0) (xs ys : List X) → All P (xs ++ ys) → All P xs
all_front P [] ys all = All-nil P
all_front P (x ∷ xs) ys all = All-cons P x xs (All-head P x (xs ++ ys) all) (all_front P xs ys (All-tail P x (xs ++ ys) all))

all_behind : {X : Type 0} (P : X → Type 0) (xs ys : List X) → All P (xs ++ ys) → All P ys
all_behind P [] ys all = all
all_behind P (x ∷ xs) ys all = all_behind P xs ys (All-tail P x (xs ++ ys) all)

goals_more : (pieces : List Piece) (piece : Piece) → goals_of (pieces ++ piece ∷ []) ≡ goals_of pieces ++ goals_at piece.node
goals_more pieces piece =
    flat_map-append (λ (p : Piece). goals_at p.node) pieces (piece ∷ []) ∙ ap (λ (l : List ℕ). goals_of pieces ++ l) (append-nil (goals_at piece.node))

module _ (i : Instance) (pieces : List Piece) (piece : Piece) where
  -- a bound that none of more leaves is below
  pub reached_before : (low : ℕ) → IsReachedBy i low (pieces ++ piece ∷ []) → IsReachedBy i low pieces
  reached_before low reached =
      let all = subst (λ (l : List ℕ). All (λ goal. low ≤ goal) l) (goals_more pieces piece) reached.1 in
      (reached.0, all_front (λ goal. low ≤ goal) (goals_of pieces) (goals_at piece.node) all)

  pub reached_last : (low : ℕ) → IsReachedBy i low (pieces ++ piece ∷ []) → All (λ goal. low ≤ goal) (goals_at piece.node)
  reached_last low reached =
      let all = subst (λ (l : List ℕ). All (λ goal. low ≤ goal) l) (goals_more pieces piece) reached.1 in
      all_behind (λ goal. low ≤ goal) (goals_of pieces) (goals_at piece.node) all

  still_spared : (t : Task) → IsSpared i pieces t → IsSpared i (pieces ++ piece ∷ []) t
  still_spared t spared = record {
    front = spared.front;
    more = spared.more;
    decisions = spared.decisions;
    ruled_out = λ low reached. spared.ruled_out low (reached_before low reached);
  }

  pub spared_more : (spared : List Task) (old new : Needs) → AreSpared i pieces spared old
      → ((low : ℕ) → low ≤ i.cluster.horizon + 1 → All (λ goal. low ≤ goal) (goals_at piece.node) → HoldUpTo i low old → HoldUpTo i low new)
      → AreSpared i (pieces ++ piece ∷ []) spared new
  spared_more spared old new are holds = record {
    each = All-weaker (IsSpared i pieces) (IsSpared i (pieces ++ piece ∷ [])) still_spared spared are.each;
    holds = λ low reached. holds low reached.0 (reached_last low reached) (are.holds low (reached_before low reached));
  }

-- where nothing is known, whatever is worked is at hand
pub at_first : (i : Instance) (decisions : List Decision) (way : Option Way) → ((j : Instance) (low : ℕ) → IfSome way (HoldsAt j low))
    → IfSome way (λ (w : Way). (w.instance ≡ i) × (w.decisions ≡ decisions))
at_first i decisions None holds = tt
at_first i decisions (Some way) holds = absurd (omega (arith, (holds i (way.goal + 1)).reached))
