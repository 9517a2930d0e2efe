-- A list whose first elements are exchanged, one after another.
use Rattle.std.proofs.Common.{◌≡◌, ℕ, ◌+◌, ◌<◌, ◌≤◌, List, length, map, slice_index, slice_set, arith, inl, inr, refl, ap, sym, ◌∙◌, get_or-set_other, get_or-set_same, length-set}
use Rattle.std.specs.List.{range_with_len}
use Rattle.std.proofs.lemmas.Bool.{cases_eq}
use Rattle.std.proofs.lemmas.List.FromFn.{fill_by_all}

-- of a list the first so many elements are what f says, and the others are as they were
pub record AreExchanged (f : ℕ → ℕ) (old : List ℕ) (count : ℕ) (now : List ℕ) : Type 0 where
  pub long : length now ≡ length old
  pub done : (j : ℕ) → j < count → slice_index now j ≡ f j
  pub rest : (j : ℕ) → count ≤ j → slice_index now j ≡ slice_index old j

pub none_exchanged : (f : ℕ → ℕ) (old : List ℕ) → AreExchanged f old 0 old
none_exchanged f old = record { long = refl; done = λ j below. absurd (omega (arith, below)); rest = λ j _. refl }

pub one_exchanged : (f : ℕ → ℕ) (old now : List ℕ) (k value : ℕ) → k < length now → value ≡ f k → AreExchanged f old k now → AreExchanged f old (k + 1) (slice_set now k value)
one_exchanged f old now k value inside is before = record {
  long = length-set now k value ∙ before.long;
  done = λ j below. elim (cases_eq j k) [
    | inl same ↦ ap (slice_index (slice_set now k value)) same ∙ get_or-set_same now k value 0 inside ∙ is ∙ ap f (sym same)
    | inr other ↦ get_or-set_other now k j value 0 other ∙ before.done j (omega (arith, below, other))
  ];
  rest = λ j from. get_or-set_other now k j value 0 (λ same. omega (arith, same, from)) ∙ before.rest j (omega (arith, from));
}

pub all_exchanged : (f : ℕ → ℕ) (old now : List ℕ) (count k : ℕ) → length old ≡ count → length old ≤ k → AreExchanged f old k now → now ≡ map f (range_with_len 0 count)
all_exchanged f old now count k long over are = fill_by_all f now count 0 (are.long ∙ long) (λ j below. are.done j (omega (arith, below, over, long)))
