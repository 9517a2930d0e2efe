-- Weights can't fall for ever, whichever part it is that falls.
use Rattle.std.proofs.Common.{◌≡◌, ℕ, zero, suc, ◌+◌, ◌<◌, arith, inl, inr, refl, subst}
use Rattle.ttp_model.specs.declared.plan.Plan.{Plan}
use Rattle.ttp_model.specs.Instance.{Instance}
use Rattle.ttp_model.specs.Moves.{Weight, IsLighter, weight}

module _ (A : Type 0) (of : A → Weight) (P : A → Type 0) (step : (x : A) → ((y : A) → IsLighter (of y) (of x) → P y) → P x) where
  innermost : (n m : ℕ) → ((y : A) → (of y).times < n → P y) → ((y : A) → (of y).times < suc n → (of y).twins < m → P y)
      → (l : ℕ) (x : A) → (of x).times < suc n → (of x).twins < suc m → (of x).frames < l → P x
  innermost n m before beside zero x h k g = absurd (omega (arith, g))
  innermost n m before beside (suc l) x h k g = step x (λ y lighter. elim lighter [
    | inl less ↦ before y (omega (arith, h, less))
    | inr level ↦ elim level.1 [
      | inl less ↦ beside y (omega (arith, h, level.0)) (omega (arith, k, less))
      | inr even ↦ innermost n m before beside l y (omega (arith, h, level.0)) (omega (arith, k, even.0)) (omega (arith, g, even.1))
    ]
  ])

  inner : (n : ℕ) → ((y : A) → (of y).times < n → P y) → (m : ℕ) (x : A) → (of x).times < suc n → (of x).twins < m → P x
  inner n before zero x h k = absurd (omega (arith, k))
  inner n before (suc m) x h k = innermost n m before (inner n before m) (suc (of x).frames) x h k (omega arith)

  outer : (n : ℕ) (x : A) → (of x).times < n → P x
  outer zero x h = absurd (omega (arith, h))
  outer (suc n) x h = inner n (outer n) (suc (of x).twins) x h (omega arith)

  -- what follows for each from all that are lighter holds of all
  pub by_parts : (x : A) → P x
  by_parts x = outer (suc (of x).times) x (omega arith)

pub by_weight : (i : Instance) (P : Plan → Type 0) → ((plan : Plan) → ((lighter : Plan) → IsLighter (weight i lighter) (weight i plan) → P lighter) → P plan) → (plan : Plan) → P plan
by_weight i P step plan = by_parts Plan (weight i) P step plan

StartsNoFall : Instance → Plan → Type 0
StartsNoFall i plan = (plans : ℕ → Plan) → plans 0 ≡ plan → ¬ ((k : ℕ) → IsLighter (weight i (plans (k + 1))) (weight i (plans k)))

-- no sequence of plans grows lighter for ever
pub weights_end_lem : (i : Instance) (plans : ℕ → Plan) → ¬ ((k : ℕ) → IsLighter (weight i (plans (k + 1))) (weight i (plans k)))
unfolding StartsNoFall
weights_end_lem i plans = by_weight i (StartsNoFall i) step (plans 0) plans refl
  where
    step : (plan : Plan) → ((lighter : Plan) → IsLighter (weight i lighter) (weight i plan) → StartsNoFall i lighter) → StartsNoFall i plan
    step plan rest others first falls = rest (others 1) (subst (λ p. IsLighter (weight i (others 1)) (weight i p)) first (falls 0)) (λ k. others (k + 1)) refl (λ k. falls (k + 1))
