use Rattle.std.proofs.Common.{◌≡◌, ◌∙◌, count_by, arith, refl}
use Rattle.used_decisions.specs.Branches.{branches, is_branch}
use Rattle.plan_questions.proofs.Shown.{shown_by_check}
use Rattle.plan_questions.proofs.conflicts.carrying.carried_over.Goals as goal

pub returns-in-Some-2 : goal.returns-in-Some-2
returns-in-Some-2 c =
    let cert = c.in-Some-2.cert in
    let proves = rw c.in-Some-2.is at c.in_ok-cert.ensures.proves in
    let version = rw c.in-Some-2.is at c.in_ok-cert.ensures.version in
    let low = rw c.in-Some-2.is at c.in_ok-cert.ensures.low in
    let nodes = rw c.in-Some-2.is at c.in_ok-cert.ensures.nodes in
    let counted : c.branches_among.result ≡ count_by is_branch c.in-Some.nodes.items = rw c.as_slice.ensures.value at c.branches_among.ensures in
    let same : branches cert.tree ≡ count_by is_branch c.in-Some.nodes.items = rw nodes refl in
    shown_by_check c.args.looser.now c.args.options cert c.nodes-nodes.ensures.instance proves (version ∙ c.version-version.ensures ∙ c.requires)
    (omega (arith, counted, same, c.if-branches_among-options.false)) (low ∙ c.past_horizon-low.ensures.value)
