-- The bound that a search tells which goes on from a certificate is that of its own certificate, so no lower than the first one's.
use Rattle.std.proofs.Common.{◌≡◌, ℕ, ◌≤◌, List, Option, None, Some, Result, Ok, Err, IfOk, inl, inr, filter, sym, ap, subst, ◌∙◌, arith}
use Rattle.ttp_model.specs.declared.plan.Plan.{Plan}
use Rattle.ttp_model.specs.Instance.{Instance}
use Rattle.certificate.specs.declared.node.Node.{Node}
use Rattle.certificate.specs.Cert.{Cert}
use Rattle.certificate.specs.Trees.{preorder}
use Rattle.planner.specs.Answers.{cert_of, from_low}
use Rattle.planner.specs.Begun.{is_open}
use Rattle.planner.specs.Ends.{IsAnswerOf}
use Rattle.planner.specs.Onward.{further, told_low, IsOnward, IsOwn, IsProved, IsRaised}
use Rattle.planner.specs.Searching.{aim_of, limit_of}
use Rattle.planner.specs.declared.onward.OnFault.{OnFault}
use Rattle.planner.specs.declared.parts.Portion.{Portion}
use Rattle.planner.specs.found.FoundPlan.{FoundPlan}
use Rattle.planner.specs.outcome.Options.{Options}
use Rattle.planner.specs.outcome.Outcome.{Outcome}
use Rattle.planner.specs.outcome.Outcome.TheVariants.{Optimal, Infeasible, Stopped}
use Rattle.planner.specs.outcome.Why.{Why}
use Rattle.planner.proofs.Proved.{outcome_proved, part_proved}

-- that of a search, or of a part of it
own_told : (i : Instance) (options : Options) (gap : ℕ) (leaves : List Node) (part : Option Portion) (own : Outcome) → IsOwn i options gap leaves part own
    → (cert_of own).low ≡ told_low i own
own_told i options gap leaves None own is = let proved : IsProved i own = outcome_proved i options gap own is in proved.bound
own_told i options gap leaves (Some part) own is = let proved : IsProved i own = part_proved i options gap _ own is in proved.bound

-- that of both trees joined
end_told : (i : Instance) (cause : Why) (best : Option FoundPlan) (low : ℕ) (cert : Cert) (outcome : Outcome)
    → IsAnswerOf i cause best low (from_low low cert) outcome → (cert_of outcome).low ≡ told_low i outcome
end_told i cause best low cert (Optimal plan ticks own) is = ap (λ (c : Cert). c.low) is.2 ∙ is.1
end_told i cause best low cert (Infeasible own) is = ap (λ (c : Cert). c.low) is.2 ∙ is.1 ∙ ap (limit_of i) is.0
end_told i cause best low cert (Stopped why bound found own) is = ap (λ (c : Cert). c.low) is.4 ∙ sym is.2

raised_told : (i : Instance) (gap : ℕ) (cert : Cert) (own outcome : Outcome) → IsRaised i gap cert own outcome → (cert_of outcome).low ≡ told_low i outcome
raised_told i gap cert own outcome is = end_told i is.says.cause is.best is.says.low is.joined outcome is.says.is

told : (i : Instance) (options : Options) (gap : ℕ) (start : Option Plan) (cert : Cert) (part : Option Portion) (outcome : Outcome)
    → IsOnward i options gap start cert part outcome → (cert_of outcome).low ≡ told_low i outcome
told i options gap start cert part outcome is = elim is.told [
  | inl same ↦
      subst (λ (o : Outcome). (cert_of o).low ≡ told_low i o) (sym same)
      (own_told i (further options is.made) gap (filter (is_open (aim_of i is.aims is.first)) (preorder cert.tree)) part is.own is.answer)
  | inr raised ↦ raised_told i gap cert is.own outcome raised
]

pub no_lower : (i : Instance) (options : Options) (gap : ℕ) (start : Option Plan) (cert : Cert) (part : Option Portion) (result : Result Outcome OnFault)
    → IfOk result (IsOnward i options gap start cert part) → IfOk result (λ outcome. cert.low ≤ (cert_of outcome).low)
    → IfOk result (λ outcome. cert.low ≤ told_low i outcome)
no_lower i options gap start cert part (Ok outcome) is least =
    let proved : cert.low ≤ (cert_of outcome).low = least in
    omega (arith, proved, told i options gap start cert part outcome is)
no_lower i options gap start cert part (Err fault) is least = tt
