-- Levels of nodes that are put into a set, one after another.
use Rattle.std.proofs.Common.{◌≡◌, ℕ, ◌<◌, List, [], ◌∷◌, ◌++◌, length, set, Bool, true, false, IsTrue, min, take, arith, inl, inr, refl, ap, sym, ◌∙◌, length-set, get_or-set_same, get_or-set_other}
use Rattle.std.proofs.lemmas.Bool.{cases_eq, cases_lt}
use Rattle.std.proofs.lemmas.List.{take_all}
use Rattle.std.proofs.Math.Seq.{set_out}
use Rattle.used_decisions.specs.Levels.{has_level}
use Rattle.std.proofs.lemmas.List.Elements.{All-nil, All-cons, All-append, All-weaker}
use Rattle.used_decisions.specs.declared.turn.Placed.{Placed}
use Rattle.used_decisions.specs.Uses.{HaveMarked}

kept_in : (levels : List Bool) (new level : ℕ) → IsTrue (has_level levels level) → IsTrue (has_level (set levels new true) level)
kept_in levels new level is = elim (cases_eq level new) [
  | inr other ↦ get_or-set_other levels new level true false other ∙ is
  | inl same ↦ elim (cases_lt new (length levels)) [
    | inl there ↦ rw same (get_or-set_same levels new true false there)
    | inr behind ↦ rw (set_out levels new true behind) is
  ]
]

pub put_in : (levels : List Bool) (new : ℕ) → new < length levels → IsTrue (has_level (set levels new true) new)
put_in levels new there = get_or-set_same levels new true false there

-- of no nodes no level is put in
pub marked_none : (levels : List Bool) → HaveMarked [] levels levels
marked_none levels =
    record { as_wide = refl; kept = λ level was. was; marked = All-nil (λ (one : Placed). one.level < length levels → IsTrue (has_level levels one.level)) }

-- and of one more its own
pub marked_more : (placed : List Placed) (one : Placed) (old new next : List Bool) → HaveMarked placed old new → next ≡ set new one.level true
    → HaveMarked (placed ++ one ∷ []) old next
marked_more placed one old new next have is = record {
  as_wide = ap length is ∙ (length-set new one.level true ∙ have.as_wide);
  kept = λ level was. rw is (kept_in new one.level level (have.kept level was));
  marked = All-append (λ (p : Placed). p.level < length old → IsTrue (has_level next p.level)) placed (one ∷ [])
      (All-weaker (λ (p : Placed). p.level < length old → IsTrue (has_level new p.level)) (λ (p : Placed). p.level < length old → IsTrue
      (has_level next p.level)) (λ p told there. rw is (kept_in new one.level p.level (told there))) placed have.marked)
      (All-cons (λ (p : Placed). p.level < length old → IsTrue (has_level next p.level)) one []
      (λ there. rw is (put_in new one.level (omega (arith, there, have.as_wide)))) (All-nil
      (λ (p : Placed). p.level < length old → IsTrue (has_level next p.level))));
}

-- no more are taken than there are
pub take_least : {X : Type 0} (xs : List X) (count : ℕ) → take (min count (length xs)) xs ≡ take count xs
take_least xs count = elim (cases_lt count (length xs)) [
  | inl inside ↦ ap (λ (k : ℕ). take k xs) (omega (arith, inside))
  | inr far ↦ take_all (min count (length xs)) xs (omega (arith, far)) ∙ sym (take_all count xs far)
]
