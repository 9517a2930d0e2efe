-- What a decision sets is the same by all decisions and by the kept ones, where the last one that sets it is kept.
use Rattle.std.proofs.Common.{◌&&◌, ◌||◌, not, List, [], ◌∷◌, Bool, true, false, IsTrue, IsFalse, inl, inr, refl, sym}
use Rattle.std.proofs.lemmas.Bool.{cases_Bool, and_parts}
use Rattle.ttp_model.specs.Instance.{Instance}
use Rattle.tt_choice.specs.declared.decision.Decision.{Decision}
use Rattle.tt_choice.specs.Choice.{Choice, IsChoice}
use Rattle.tt_choice.specs.Decisions.{choice_after, choice_after_all, IsOpenDecision, AreOpenDecisions}
use Rattle.tt_choice.specs.Inside.{IsInside}
use Rattle.tt_choice.specs.Kept.{Marked, keep, drop, all_of, kept_of, takes_place, KeepsPlaces, last_kept}
use Rattle.tt_choice.proofs.kept.Wider.{IsWider, wider_kept, wider_dropped}

-- what is the same in two choices: a decision that is made in both sets it, or it is left by it, made in both or in the first alone
pub record IsSetBy (i : Instance) (Same : Choice → Choice → Type 0) (picks : Decision → Bool) : Type 0 where
  pub set : (c d : Choice) (δ : Decision) → IsChoice i c → IsChoice i d → IsOpenDecision i c δ → IsTrue (picks δ) → Same (choice_after i c δ) (choice_after i d δ)
  pub both : (c d : Choice) (δ : Decision) → IsChoice i c → IsChoice i d → IsOpenDecision i c δ → IsFalse (picks δ) → Same c d → Same (choice_after i c δ) (choice_after i d δ)
  pub one : (c d : Choice) (δ : Decision) → IsChoice i c → IsInside i c d → IsOpenDecision i c δ → IsFalse (picks δ) → Same c d → Same (choice_after i c δ) d

not_picked : (b : Bool) → IsTrue (not b) → IsFalse b
not_picked true is = sym is
not_picked false is = refl

module _ (i : Instance) (Same : Choice → Choice → Type 0) (picks : Decision → Bool) (is_set : IsSetBy i Same picks) where
  kept_one : (c d : Choice) (δ : Decision) (so_far : Bool) → IsChoice i c → IsChoice i d → IsOpenDecision i c δ → (IsTrue so_far → Same c d) → IsTrue (picks δ || so_far) → Same (choice_after i c δ) (choice_after i d δ)
  kept_one c d δ so_far ok also is same holds = elim (cases_Bool (picks δ)) [
    | inl picked ↦ is_set.set c d δ ok also is picked
    | inr other ↦ is_set.both c d δ ok also is other (same (rw other at holds))
  ]

  dropped_one : (c d : Choice) (δ : Decision) (so_far : Bool) → IsChoice i c → IsInside i c d → IsOpenDecision i c δ → (IsTrue so_far → Same c d) → IsTrue (not (picks δ) && so_far) → Same (choice_after i c δ) d
  dropped_one c d δ so_far ok inside is same holds =
      let parts = and_parts (not (picks δ)) so_far holds in
      is_set.one c d δ ok inside is (not_picked (picks δ) parts.0) (same parts.1)

  pub alike_kept : (all : Bool) (c d : Choice) (ms : List Marked) (so_far : Bool) → IsWider i all c d → AreOpenDecisions i c (all_of ms) → KeepsPlaces all ms → (IsTrue so_far → Same c d) → IsTrue (last_kept picks so_far ms) → Same (choice_after_all i c (all_of ms)) (choice_after_all i d (kept_of ms))
  alike_kept all c d [] so_far wide are places same last = same last
  alike_kept all c d (keep δ ∷ ms) so_far wide are places same last =
      alike_kept all (choice_after i c δ) (choice_after i d δ) ms (picks δ || so_far) (wider_kept i all c d wide δ places.0 are.0) are.1 places.1 (kept_one c d δ so_far wide.well wide.also are.0 same) last
  alike_kept all c d (drop δ ∷ ms) so_far wide are places same last =
      alike_kept (all && not (takes_place δ)) (choice_after i c δ) d ms (not (picks δ) && so_far) (wider_dropped i all c d wide δ are.0) are.1 places (dropped_one c d δ so_far wide.well wide.inside are.0 same) last
