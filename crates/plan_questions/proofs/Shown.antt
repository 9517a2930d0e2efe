-- What was shown with fewer subtrees is shown with more; and what a certificate shows that was checked.
use Rattle.std.proofs.Common.{◌≡◌, ◌+◌, ◌≤◌, arith}
use Rattle.ttp_model.specs.Instance.{Instance}
use Rattle.ttp_model.specs.Rules.{IsInstance}
use Rattle.certificate.specs.Versions.{answer_version}
use Rattle.certificate.specs.Cert.{Cert}
use Rattle.tree_check.specs.Proofs.{Proves}
use Rattle.used_decisions.specs.Branches.{branches}
use Rattle.tree_check.proofs.Bounds.{proved_none}
use Rattle.planner.specs.outcome.Options.{Options}
use Rattle.plan_questions.specs.Searches.{IsShown}

pub shown_with_more : (i : Instance) (few options : Options) (cert : Cert) → few.budget ≤ options.budget → IsShown i few cert → IsShown i options cert
shown_with_more i few options cert less is = record {
  none = is.none;
  answered = record {
    proves = is.answered.proves;
    version = is.answered.version;
    within = omega (arith, less, is.answered.within);
    says = is.answered.says;
  };
}

pub shown_by_check : (i : Instance) (options : Options) (cert : Cert) → IsInstance i → Proves i cert → cert.version ≡ answer_version i
    → branches cert.tree ≤ options.budget → cert.low ≡ i.cluster.horizon + 1 → IsShown i options cert
shown_by_check i options cert good proves version few low = record {
  none = proved_none i cert good proves low;
  answered = record { proves = proves; version = version; within = few; says = low };
}
