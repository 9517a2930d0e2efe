-- A position of the order is refused whose node stands before it.
use Rattle.std.proofs.Common.{ℕ, ◌<◌, List, slice_index, arith, inl, inr}
use Rattle.std.proofs.lemmas.Bool.{cases_lt}
use Rattle.ttp_model.specs.Plans.{IsNewNode}
use Rattle.plan_reasons.specs.Lists.{IsFirstPosition}

pub stands_before : (count : ℕ) (order : List ℕ) (k first : ℕ) → ¬ IsNewNode count order k → slice_index order k < count
    → IsFirstPosition order k first → first < k
stands_before count order k first wrong inside is = elim (cases_lt first k) [
  | inl less ↦ less
  | inr at_least ↦ absurd (wrong (record { node = inside; first = λ j before. is.least j (omega (arith, before, at_least)) }))
]
