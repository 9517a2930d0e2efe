-- The version of an answer's certificate allows all its lines: with one channel none of them speaks of channels.
use Rattle.std.proofs.Common.{◌≡◌, ℕ, List, Option, None, Some, inl, inr, filter, sym, subst}
use Rattle.ttp_model.specs.declared.plan.Plan.{Plan}
use Rattle.ttp_model.specs.Instance.{Instance}
use Rattle.ttp_model.specs.Rules.{IsInstance}
use Rattle.certificate.specs.declared.version.Version.{Version}
use Rattle.certificate.specs.Versions.{answer_version, Allows}
use Rattle.certificate.specs.declared.node.Node.{Node}
use Rattle.certificate.specs.Cert.{Cert}
use Rattle.certificate.specs.Trees.{preorder}
use Rattle.planner.specs.Begun.{is_open}
use Rattle.search_workers.specs.Ends.{IsAnswerOf}
use Rattle.tree_check.specs.Proofs.{Proves}
use Rattle.search_workers.specs.Searching.{aim_of}
use Rattle.planner.specs.declared.parts.Portion.{Portion}
use Rattle.search_workers.specs.declared.found.FoundPlan.{FoundPlan}
use Rattle.tree_check.proofs.OneChannel.{answer_version_allows}
use Rattle.search_workers.specs.declared.outcome.Options.{Options}
use Rattle.search_workers.specs.declared.outcome.Outcome.{Outcome}
use Rattle.search_workers.specs.declared.outcome.Outcome.TheVariants.{Optimal, Infeasible, Stopped}
use Rattle.search_workers.specs.declared.outcome.Why.{Why}
use Rattle.planner.specs.Answers.{cert_of, from_low, IsOutcome}
use Rattle.planner.specs.Onward.{further, IsOnward, IsOwn, IsRaised}

proved_allows : (i : Instance) (cert : Cert) → IsInstance i → Proves i cert → cert.version ≡ answer_version i → Allows cert.version cert.tree
proved_allows i cert w proves version =
    subst (λ (v : Version). Allows v cert.tree) (sym version) (answer_version_allows i cert w proves)

pub answer_allows : (i : Instance) (options : Options) (gap : ℕ) (outcome : Outcome) → IsInstance i → IsOutcome i options gap outcome → Allows (cert_of outcome).version (cert_of outcome).tree
answer_allows i options gap outcome w is = proved_allows i (cert_of outcome) w is.proves is.version

-- ---- so does that of a search that goes on from a certificate

own_allows : (i : Instance) (options : Options) (gap : ℕ) (leaves : List Node) (part : Option Portion) (outcome : Outcome) → IsInstance i
    → IsOwn i options gap leaves part outcome → Allows (cert_of outcome).version (cert_of outcome).tree
own_allows i options gap leaves None outcome w is = answer_allows i options gap outcome w is
own_allows i options gap leaves (Some part) outcome w is = proved_allows i (cert_of outcome) w is.proves is.version

end_cert : (i : Instance) (cause : Why) (best : Option FoundPlan) (low : ℕ) (cert : Cert) (outcome : Outcome) → IsAnswerOf i cause best low cert outcome
    → cert_of outcome ≡ cert
end_cert i cause best low cert (Optimal plan ticks own) is = is.2
end_cert i cause best low cert (Infeasible own) is = is.2
end_cert i cause best low cert (Stopped why bound found own) is = is.4

raised_allows : (i : Instance) (gap : ℕ) (cert : Cert) (own outcome : Outcome) → IsInstance i → IsRaised i gap cert own outcome
    → Allows (cert_of outcome).version (cert_of outcome).tree
raised_allows i gap cert own outcome w is =
    subst (λ (c : Cert). Allows c.version c.tree)
    (sym (end_cert i is.says.cause is.best is.says.low (from_low is.says.low is.joined) outcome is.says.is))
    (proved_allows i is.joined w is.proves is.version)

pub onward_allows : (i : Instance) (options : Options) (gap : ℕ) (start : Option Plan) (cert : Cert) (part : Option Portion) (outcome : Outcome)
    → IsInstance i → IsOnward i options gap start cert part outcome → Allows (cert_of outcome).version (cert_of outcome).tree
onward_allows i options gap start cert part outcome w is = elim is.told [
  | inl same ↦
      subst (λ (o : Outcome). Allows (cert_of o).version (cert_of o).tree) (sym same)
      (own_allows i (further options is.made) gap (filter (is_open (aim_of i is.aims is.first)) (preorder cert.tree)) part is.own w is.answer)
  | inr raised ↦ raised_allows i gap cert is.own outcome w raised
]
