-- The last decision that a test picks counts.
use Rattle.std.proofs.Common.{◌≡◌, ◌⊎◌, List, [], ◌∷◌, Bool, true, false, not, ◌&&◌, ◌||◌, Option, None, Some, All, IsTrue, IsFalse, inl, inr, refl, ap, sym, subst, ◌∙◌}
use Rattle.std.proofs.lemmas.Bool.{cases_Bool, false≢true}
use Rattle.std.proofs.lemmas.List.Elements.{All-nil, All-cons}
use Rattle.tt_choice.specs.declared.decision.Decision.{Decision}
use Rattle.tt_choice.specs.Kept.{Marked, keep, drop, last_kept}
use Rattle.used_decisions.specs.declared.turn.Turn.{Turn}
use Rattle.used_decisions.specs.Levels.{has_level}
use Rattle.used_decisions.specs.Turns.{later_of, last_of, IsLast}
use Rattle.used_decisions.specs.Marks.{KeepsLevels, IsTold}

module _ (picks : Decision → Bool) where
  none_later : (picked : Bool) (one : Turn) (last : Option Turn) → later_of picked one last ≡ None → (picked ≡ false) × (last ≡ None)
  none_later true one None is = cc
  none_later false one None is = (refl, refl)
  none_later picked one (Some behind) is = cc

  pub none_picked : (turns : List Turn) → last_of picks turns ≡ None → All (λ (turn : Turn). IsFalse (picks turn.decision)) turns
  none_picked [] is = All-nil (λ (turn : Turn). IsFalse (picks turn.decision))
  none_picked (one ∷ turns) is =
      let parts = none_later (picks one.decision) one (last_of picks turns) is in
      All-cons (λ (turn : Turn). IsFalse (picks turn.decision)) one turns parts.0 (none_picked turns parts.1)

  some_later : (picked : Bool) (one : Turn) (last : Option Turn) (turn : Turn) → later_of picked one last ≡ Some turn → ((last ≡ None) × (picked ≡ true) × (one ≡ turn)) ⊎ (last ≡ Some turn)
  some_later true one None turn is = inl (refl, refl, cc)
  some_later false one None turn is = cc
  some_later picked one (Some behind) turn is = inr is

  pub is_last : (turns : List Turn) (turn : Turn) → last_of picks turns ≡ Some turn → IsLast picks turns turn
  is_last [] turn is = cc
  is_last (one ∷ turns) turn is = elim (some_later (picks one.decision) one (last_of picks turns) turn is) [
    | inl here ↦ record {
      front = [];
      behind = turns;
      are = ap (λ (x : Turn). x ∷ turns) here.2;
      picked = subst (λ (x : Turn). IsTrue (picks x.decision)) here.2 here.1;
      no_later = none_picked turns here.0;
    }
    | inr later ↦ let rest = is_last turns turn later in record {
      front = one ∷ rest.front;
      behind = rest.behind;
      are = ap (λ (xs : List Turn). one ∷ xs) rest.are;
      picked = rest.picked;
      no_later = rest.no_later;
    }
  ]

  or_true : (b : Bool) → (b || true) ≡ true
  or_true true = refl
  or_true false = refl

  -- whether the last one is kept, of so many as are told, and what was so before them
  kept_from : (levels : List Bool) (before : Bool) (turns : List Turn) (ms : List Marked) → KeepsLevels levels turns ms
      → (last_of picks turns ≡ None → IsTrue before) → IsTold levels (last_of picks turns) → IsTrue (last_kept picks before ms)
  kept_from levels before [] [] keeps so_far told = so_far refl
  kept_from levels before [] (m ∷ ms) keeps so_far told = absurd keeps
  kept_from levels before (one ∷ turns) [] keeps so_far told = absurd keeps
  kept_from levels before (one ∷ turns) (keep d ∷ ms) keeps so_far told =
      kept_from levels (picks d || before) turns ms keeps.1
      (λ none. elim (cases_Bool (picks one.decision)) [
        | inl picked ↦ rw (keeps.0, picked) refl
        | inr other ↦ rw (keeps.0, other) (so_far (rw (none, other) refl))
      ])
      (told_behind (picks one.decision) one (last_of picks turns) told)
    where
      told_behind : (picked : Bool) (one : Turn) (last : Option Turn) → IsTold levels (later_of picked one last) → IsTold levels last
      told_behind picked one None told = tt
      told_behind picked one (Some turn) told = told
  kept_from levels before (one ∷ turns) (drop d ∷ ms) keeps so_far told =
      kept_from levels (not (picks d) && before) turns ms keeps.2
      (λ none. elim (cases_Bool (picks one.decision)) [
        | inl picked ↦ absurd (both_false (has_level levels one.level) keeps.1 (rw (none, picked) at told))
        | inr other ↦ rw (keeps.0, other) (so_far (rw (none, other) refl))
      ])
      (told_behind (picks one.decision) one (last_of picks turns) told)
    where
      told_behind : (picked : Bool) (one : Turn) (last : Option Turn) → IsTold levels (later_of picked one last) → IsTold levels last
      told_behind picked one None told = tt
      told_behind picked one (Some turn) told = told

      both_false : (b : Bool) → IsFalse b → IsTrue b → ⊥
      both_false b never holds = false≢true (sym never ∙ holds)

  pub is_kept : (levels : List Bool) (turns : List Turn) (ms : List Marked) → KeepsLevels levels turns ms → IsTold levels (last_of picks turns) → IsTrue (last_kept picks true ms)
  is_kept levels turns ms keeps told = kept_from levels true turns ms keeps (λ none. refl) told
