-- A branch that is open by all decisions is open by the kept ones, with the same children; and one more decision, kept or not.
use Rattle.std.proofs.Common.{◌≡◌, ℕ, ◌&&◌, not, List, [], ◌∷◌, ◌++◌, Bool, IsTrue, refl, ap}
use Rattle.ttp_model.specs.declared.step.Kind.{Kind}
use Rattle.ttp_model.specs.Kinds.{children_of}
use Rattle.ttp_model.specs.Instance.{Instance}
use Rattle.tt_choice.specs.declared.decision.Decision.{Decision}
use Rattle.tt_choice.specs.Choice.{Choice}
use Rattle.tt_choice.specs.Kinds.{IsOpen, children, decision_of, is_of_places, HasPlaces}
use Rattle.tt_choice.specs.Kept.{Marked, keep, drop, all_of, kept_of, takes_place, KeepsPlaces, places_kept}
use Rattle.tt_choice.proofs.Rows.{open_outside, options_alike, decision_alike, place_is_taken}
use Rattle.tt_choice.proofs.kept.Wider.{IsWider, same_prefix}

-- a branch that is open in d with the children that it has in c
pub record IsSameBranch (i : Instance) (c d : Choice) (kind : Kind) : Type 0 where
  pub is_open : IsOpen i d kind
  pub count : children i d kind ≡ children i c kind
  pub decision : (k : ℕ) → decision_of i d kind k ≡ decision_of i c kind k

pub branch_kept : (i : Instance) (all : Bool) (c d : Choice) → IsWider i all c d → (kind : Kind) → HasPlaces kind all → IsOpen i c kind
    → IsSameBranch i c d kind
branch_kept i all c d wide kind places is =
    let same : IsTrue (is_of_places kind) → c.prefix ≡ d.prefix = λ of_places. same_prefix i all c d wide (places of_places) in
    record {
      is_open = open_outside i c d kind wide.inside same is;
      count = ap (children_of kind) (options_alike i c d kind same);
      decision = λ k. decision_alike i c d kind k same;
    }

-- a decision of a branch takes a place only where the branch does
pub places_of : (i : Instance) (c : Choice) (kind : Kind) (k : ℕ) (all : Bool) → HasPlaces kind all → IsTrue (takes_place (decision_of i c kind k)) → IsTrue all
places_of i c kind k all places takes = places (place_is_taken i c kind k takes)

-- One decision more.
pub all_of-keep : (ms : List Marked) (d : Decision) → all_of (ms ++ keep d ∷ []) ≡ all_of ms ++ d ∷ []
all_of-keep [] d = refl
all_of-keep (keep e ∷ ms) d = ap (λ (ds : List Decision). e ∷ ds) (all_of-keep ms d)
all_of-keep (drop e ∷ ms) d = ap (λ (ds : List Decision). e ∷ ds) (all_of-keep ms d)

pub all_of-drop : (ms : List Marked) (d : Decision) → all_of (ms ++ drop d ∷ []) ≡ all_of ms ++ d ∷ []
all_of-drop [] d = refl
all_of-drop (keep e ∷ ms) d = ap (λ (ds : List Decision). e ∷ ds) (all_of-drop ms d)
all_of-drop (drop e ∷ ms) d = ap (λ (ds : List Decision). e ∷ ds) (all_of-drop ms d)

pub kept_of-keep : (ms : List Marked) (d : Decision) → kept_of (ms ++ keep d ∷ []) ≡ kept_of ms ++ d ∷ []
kept_of-keep [] d = refl
kept_of-keep (keep e ∷ ms) d = ap (λ (ds : List Decision). e ∷ ds) (kept_of-keep ms d)
kept_of-keep (drop e ∷ ms) d = kept_of-keep ms d

pub kept_of-drop : (ms : List Marked) (d : Decision) → kept_of (ms ++ drop d ∷ []) ≡ kept_of ms
kept_of-drop [] d = refl
kept_of-drop (keep e ∷ ms) d = ap (λ (ds : List Decision). e ∷ ds) (kept_of-drop ms d)
kept_of-drop (drop e ∷ ms) d = kept_of-drop ms d

pub places-keep : (all : Bool) (ms : List Marked) (d : Decision) → KeepsPlaces all ms → (IsTrue (takes_place d) → IsTrue (places_kept all ms)) → KeepsPlaces all (ms ++ keep d ∷ [])
places-keep all [] d places takes = (takes, tt)
places-keep all (keep e ∷ ms) d places takes = (places.0, places-keep all ms d places.1 takes)
places-keep all (drop e ∷ ms) d places takes = places-keep (all && not (takes_place e)) ms d places takes

pub places-drop : (all : Bool) (ms : List Marked) (d : Decision) → KeepsPlaces all ms → KeepsPlaces all (ms ++ drop d ∷ [])
places-drop all [] d places = tt
places-drop all (keep e ∷ ms) d places = (places.0, places-drop all ms d places.1)
places-drop all (drop e ∷ ms) d places = places-drop (all && not (takes_place e)) ms d places
