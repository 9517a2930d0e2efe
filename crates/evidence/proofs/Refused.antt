-- Tables that are no instance are refused.
use Rattle.std.proofs.Common.{◌≡◌, ℕ, zero, suc, ◌+◌, ◌<◌, [], ◌∷◌, slice_index, Result, Ok, Err, IfOk, IsErr, refl, arith, inl}
use Rattle.ttp_model.specs.Instance.{Instance}
use Rattle.ttp_model.specs.Graph.{HasLink, Leads, IsClosedWalk}
use Rattle.ttp_model.specs.Rules.{IsInstance}

pub no_instance : {E : Type 0} (result : Result Instance E) (parts tables : Instance) → parts ≡ tables
    → IfOk result (λ i. IsInstance i × (i ≡ parts)) → ¬ IsInstance tables → IsErr result
no_instance (Ok i) parts tables same ok broken = absurd (broken (rw (← same, ← ok.1) ok.0))
no_instance (Err e) parts tables same ok broken = refl

-- the walk from p to q and back
pub there_and_back : (i : Instance) (p q : ℕ) → HasLink i p q → HasLink i q p → IsClosedWalk i (p ∷ q ∷ [])
there_and_back i p q there back = record {
  some = omega arith;
  each = each;
  closes = inl back;
}
  where
    each : (k : ℕ) → k + 1 < 2 → Leads i (slice_index (p ∷ q ∷ []) k) (slice_index (p ∷ q ∷ []) (k + 1))
    each zero lt = inl there
    each (suc k) lt = absurd (omega arith)
