use Rattle.std.proofs.Common.{List, Contains, IsFalse, ap, sym, subst, ◌∙◌}
use Rattle.ttp_model.specs.declared.step.Step.{Step}
use Rattle.ttp_model.specs.declared.step.Step.TheVariants.{UsSettled}
use Rattle.tt_infer.specs.Known.{bef_of}
use Rattle.tt_infer.specs.Facts.{Facts, AreFacts}
use Rattle.step_logs.proofs.one_order.Logs.{carried_ordered}
use Rattle.step_logs.proofs.propagator.carried_over.Goals as goal

pub returns-then-not-ask_for_wait : goal.returns-then-not-ask_for_wait
returns-then-not-ask_for_wait c =
    let level = c.args.level.now in
    let p = c.in-Before.p in
    let q = c.in-Before.q in
    let are : AreFacts level.facts = subst AreFacts c.facts-facts.ensures c.instance-instance.ensures.inference in
    let none : ¬ Contains level.steps (UsSettled p) = subst (λ (steps : List Step). ¬ Contains steps (UsSettled p)) c.steps.ensures (c.ask_for_wait.ensures c.if-not-ask_for_wait.true) in
    let unknown : IsFalse (bef_of level.facts.known p q) = ap (λ (s : Facts). bef_of s.known p q) (sym c.facts-facts.ensures) ∙ (sym c.bef.ensures ∙ c.if-not-bef.true) in
    carried_ordered level c.args.decision p q c.ordering.result c.in-Before.is are c.requires.is_open none unknown c.requires.follows c.ordering.ensures
