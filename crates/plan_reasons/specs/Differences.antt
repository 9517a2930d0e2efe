-- By how much a number is another than the right one. Own profile.
use Rattle.std.specs.Prelude.{◌≡◌, ℕ, ◌+◌, ◌<◌}
use Rattle.plan_reasons.specs.declared.differences.Difference.{Difference}
use Rattle.plan_reasons.specs.declared.differences.Difference.TheVariants.{TooFew, TooMany}

-- so many above the right one, or below it: some
abbrev pub IsDifference : ℕ → ℕ → Difference → Type 0
IsDifference number right (TooMany by) = (0 < by) × (right + by ≡ number)
IsDifference number right (TooFew by) = (0 < by) × (number + by ≡ right)
