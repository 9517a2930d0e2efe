-- Orders in a table of which processes go before which: two of them, and one that is taken out again.
use Rattle.std.proofs.Common.{◌≡◌, ℕ, ◌<◌, List, slice_set, Bool, true, false, IsFalse, inl, inr, refl, ap, sym, ◌∙◌}
use Rattle.std.proofs.lemmas.Bool.{cases_eq}
use Rattle.std.proofs.lemmas.List.{set_comm, set-set, set-get_or}
use Rattle.tt_choice.specs.Precedence.{Precedence, place_in, goes_before, put_before, take_back}
use Rattle.tt_choice.proofs.Before.{test_of}

sets_commute : (tests : List Bool) (m n : ℕ) → slice_set (slice_set tests m true) n true ≡ slice_set (slice_set tests n true) m true
sets_commute tests m n = elim (cases_eq m n) [
  | inl same ↦ rw same refl
  | inr other ↦ set_comm tests m n true true other
]

pub puts_commute : (b : Precedence) (j k p q : ℕ) → put_before (put_before b j k) p q ≡ put_before (put_before b p q) j k
puts_commute b j k p q = λ z. record b { tests = sets_commute b.tests (place_in b j k) (place_in b p q) z }

-- an order that a table doesn't have is put and taken back
taken_out : (b : Precedence) (p q : ℕ) → p < b.processes → q < b.processes → IsFalse (goes_before b p q) → take_back (put_before b p q) p q ≡ b
taken_out b p q first second unknown =
    let test = test_of b p q first second in
    let tests = set-set b.tests (place_in b p q) true false ∙ (ap (slice_set b.tests (place_in b p q)) (sym unknown ∙ test) ∙ set-get_or b.tests (place_in b p q) false) in
    λ z. record b { tests = tests z }

-- tables that don't have it are the same where they are so with it
pub same_without : (a b : Precedence) (p q : ℕ) → p < a.processes → q < a.processes → a.processes ≡ b.processes → IsFalse (goes_before a p q) → IsFalse (goes_before b p q) → put_before a p q ≡ put_before b p q → a ≡ b
same_without a b p q first second count unknown new same =
    sym (taken_out a p q first second unknown) ∙ (ap (λ (t : Precedence). take_back t p q) same ∙ taken_out b p q (rw (← count) first) (rw (← count) second) new)
