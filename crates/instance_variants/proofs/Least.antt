-- The least of a function below a count, and of a top.
use Rattle.std.proofs.Common.{◌≡◌, ℕ, zero, suc, ◌+◌, ◌<◌, ◌≤◌, min, arith, inl, inr, refl, add-one, ap}
use Rattle.std.proofs.lemmas.Bool.{cases_eq}
use Rattle.instance_variants.specs.Slack.{least}

pub least_next : (f : ℕ → ℕ) (top count : ℕ) → least f top (count + 1) ≡ min (least f top count) (f count)
least_next f top count = rw add-one refl

pub least-le-top : (f : ℕ → ℕ) (top count : ℕ) → least f top count ≤ top
least-le-top f top zero = omega arith
least-le-top f top (suc count) = omega (arith, least-le-top f top count)

pub least-le : (f : ℕ → ℕ) (top count k : ℕ) → k < count → least f top count ≤ f k
least-le f top zero k lt = absurd (omega arith)
least-le f top (suc count) k lt = elim (cases_eq k count) [
  | inl same ↦ omega (arith, ap f same)
  | inr other ↦ omega (arith, least-le f top count k (omega (arith, other)))
]

pub le-least : (f : ℕ → ℕ) (top count low : ℕ) → low ≤ top → ((k : ℕ) → k < count → low ≤ f k) → low ≤ least f top count
le-least f top zero low below each = below
le-least f top (suc count) low below each =
    omega (arith, le-least f top count low below (λ k lt. each k (omega (arith, lt))), each count (omega arith))
