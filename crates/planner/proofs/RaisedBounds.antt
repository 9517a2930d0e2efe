-- The bound of an answer that goes on from a certificate is no lower than the certificate's: what both trees joined say.
use Rattle.std.proofs.Common.{◌≡◌, ℕ, ◌<◌, ◌≤◌, [], ◌∷◌, Option, None, Some, inl, inr, zero, suc, refl, sym, ap, subst, ◌∙◌, arith, length}
use Rattle.ttp_model.specs.Instance.{Instance}
use Rattle.ttp_model.specs.Rules.{IsInstance}
use Rattle.tt_choice.specs.Branches.{root_choice}
use Rattle.certificate.specs.Cert.{Cert}
use Rattle.certificate.specs.Trees.{preorder}
use Rattle.search_workers.specs.Ends.{IsAnswerOf}
use Rattle.tree_check.specs.Proofs.{Proves}
use Rattle.search_workers.specs.Searching.{limit_of, IsFound}
use Rattle.search_workers.specs.declared.found.FoundPlan.{FoundPlan}
use Rattle.search_workers.specs.declared.outcome.Outcome.{Outcome}
use Rattle.search_workers.specs.declared.outcome.Outcome.TheVariants.{Optimal, Infeasible, Stopped}
use Rattle.search_workers.specs.declared.outcome.Why.{Why}
use Rattle.tree_check.proofs.Bounds.{proved_bound}
use Rattle.side_by_side.specs.Bounds.{IsGreatestBound}
use Rattle.side_by_side.specs.Joined.{certificate_at, IsJoinedTree}
use Rattle.side_by_side.proofs.Proving.{joined_bound}
use Rattle.planner.specs.Answers.{cert_of, from_low}
use Rattle.planner.specs.Onward.{IsProved}
use Rattle.planner.specs.Searched.{IsEndAnswer}
use Rattle.planner.proofs.Ended.{leaf_goal, proofs_goals, proofs_higher}
use Rattle.planner.proofs.Lowest.{below_limit}
use Rattle.planner.proofs.Searched.{limit_small}

-- no certificate proves more than the delay of a plan
pub bound_below : (i : Instance) (best : Option FoundPlan) (cert : Cert) → IsInstance i → IsFound i best → Proves i cert → cert.low ≤ limit_of i best
bound_below i None cert w found proves = proves.low
bound_below i (Some best) cert w found proves =
    let most = proved_bound i cert w proves best.plan found.settled.valid in
    omega (arith, most, found.delay_is)

-- so an answer that was stopped at no lower bound is no lower, and any other
pub told_enough : (i : Instance) (cert : Cert) (outcome : Outcome) → IsInstance i → Proves i cert → IsProved i outcome
    → ((why : Why) (low : ℕ) (best : Option FoundPlan) (own : Cert) → outcome ≡ Stopped why low best own → cert.low ≤ low)
    → cert.low ≤ (cert_of outcome).low
told_enough i cert (Optimal plan ticks own) w proves is enough =
    omega (arith, is.bound, bound_below i (Some (record { plan = plan; delay = ticks })) cert w is.found proves)
told_enough i cert (Infeasible own) w proves is enough = omega (arith, is.bound, proves.low)
told_enough i cert (Stopped why low best own) w proves is enough = omega (arith, is.bound, enough why low best own refl)

-- ---- what a certificate's tree says

module _ (i : Instance) (gap : ℕ) (why : Why) (best : Option FoundPlan) (cert : Cert) (w : IsInstance i) (found : IsFound i best) (proves : Proves i cert)
    (outcome : Outcome) (answer : IsEndAnswer i gap why best cert outcome) where
  at_most : answer.low ≤ limit_of i best
  at_most = below_limit (limit_of i best) (preorder cert.tree) answer.low answer.lowest

  end_proves : Proves i (from_low answer.low cert)
  end_proves = record {
    low = omega (arith, at_most, limit_small i best w found);
    tree = proofs_higher i cert.low answer.low (root_choice i ∷ []) cert.tree proves.tree answer.lowest.bound;
  }

  of : (other : Outcome) → IsAnswerOf i answer.cause best answer.low (from_low answer.low cert) other → IsProved i other
  of (Optimal plan ticks own) is = record {
    proves = subst (Proves i) (sym is.2) end_proves;
    found = subst (IsFound i) is.0 found;
    bound = ap (λ (c : Cert). c.low) is.2 ∙ is.1;
  }
  of (Infeasible own) is = record {
    proves = subst (Proves i) (sym is.2) end_proves;
    found = tt;
    bound = ap (λ (c : Cert). c.low) is.2 ∙ is.1 ∙ ap (limit_of i) is.0;
  }
  of (Stopped other low told own) is = record {
    proves = subst (Proves i) (sym is.4) end_proves;
    found = subst (IsFound i) (sym is.3) found;
    bound = ap (λ (c : Cert). c.low) is.4 ∙ sym is.2;
  }

  pub end_proved : IsProved i outcome
  end_proved = of outcome answer.is

  own_low : (other : Outcome) → IsAnswerOf i answer.cause best answer.low (from_low answer.low cert) other → (cert_of other).low ≡ answer.low
  own_low (Optimal plan ticks own) is = ap (λ (c : Cert). c.low) is.2
  own_low (Infeasible own) is = ap (λ (c : Cert). c.low) is.2
  own_low (Stopped other low told own) is = ap (λ (c : Cert). c.low) is.4

  at_least : cert.low ≤ answer.low
  at_least = elim answer.lowest.reached [
    | inl same ↦ omega (arith, same, bound_below i best cert w found proves)
    | inr less ↦ leaf_goal cert.low (preorder cert.tree) answer.low (proofs_goals i cert.low (root_choice i ∷ []) cert.tree proves.tree) less.1
  ]

  -- no less than the certificate's bound
  pub end_enough : cert.low ≤ (cert_of outcome).low
  end_enough = omega (arith, at_least, own_low outcome answer.is)

-- ---- two certificates joined

both_prove : (i : Instance) (own cert : Cert) → Proves i own → Proves i cert → (k : ℕ) → k < length (own ∷ cert ∷ [])
    → Proves i (certificate_at (own ∷ cert ∷ []) k)
both_prove i own cert a b zero inside = a
both_prove i own cert a b (suc zero) inside = b
both_prove i own cert a b (suc (suc k)) inside = absurd (omega (arith, inside))

pub joined_more : (i : Instance) (own cert joined : Cert) → Proves i own → Proves i cert → IsJoinedTree i (own ∷ cert ∷ []) joined.tree
    → IsGreatestBound i joined.tree joined.low → cert.low ≤ joined.low
joined_more i own cert joined a b tree bound =
    joined_bound i (own ∷ cert ∷ []) joined.tree joined.low (both_prove i own cert a b) tree bound 1 (omega arith)
