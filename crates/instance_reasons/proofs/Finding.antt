-- What a search finds, where there is something to find.
use Rattle.std.proofs.Common.{◌≡◌, ℕ, Option, None, Some, IsSome, refl, subst}
use Rattle.ttp_model.specs.Lists.{EachBelow, FindsFailure, IsFirstFailure}

module _ (n : ℕ) (P : ℕ → Type 0) where
  pub some_failure : (o : Option ℕ) → FindsFailure n P o → ¬ EachBelow n P → IsSome o
  some_failure None all wrong = absurd (wrong all)
  some_failure (Some k) first wrong = refl

  pub found : (o : Option ℕ) (k : ℕ) → FindsFailure n P o → o ≡ Some k → IsFirstFailure n P k
  found o k finds is = subst (λ (x : Option ℕ). FindsFailure n P x) is finds
