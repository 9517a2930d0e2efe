-- What is told of these steps, and of those of a leaf.
use Rattle.std.proofs.Common.{◌≡◌, ℕ, ◌-◌, List, length, subst, sym, ap, ◌∙◌}
use Rattle.std.specs.Borrow.{Bor}
use Rattle.ttp_model.specs.declared.step.Leaf.{Leaf}
use Rattle.ttp_model.specs.declared.step.Step.{Step}
use Rattle.ttp_model.specs.declared.step.Step.TheVariants.{LeLink}
use Rattle.ttp_model.specs.Instance.{Instance, link_at}
use Rattle.tt_choice.specs.Choice.{Choice}
use Rattle.sought_plans.specs.Known.{Known, es_of, le_of}
use Rattle.sought_plans.specs.Premises.{wcet_of}
use Rattle.tt_infer.specs.declared.fact.Fact.{Fact}
use Rattle.tt_infer.specs.declared.fact.Fact.TheVariants.{Start}
use Rattle.tt_infer.specs.Targets.{known_value, target}
use Rattle.certificate_reasons.specs.declared.conclusions.Conclusion.{Conclusion}
use Rattle.certificate_reasons.specs.declared.conclusions.Conclusion.TheVariants.{StartsFrom}
use Rattle.certificate_reasons.specs.declared.ends.LatestEnd.TheVariants.{Link}
use Rattle.certificate_reasons.specs.declared.leaves.LeafReason.{LeafReason}
use Rattle.certificate_reasons.specs.declared.steps.StepReason.{StepReason}
use Rattle.certificate_reasons.specs.declared.steps.StepReason.TheVariants.{End}
use Rattle.certificate_reasons.specs.declared.steps.ToldStep.{ToldStep}
use Rattle.certificate_reasons.specs.Conclusions.{IsConclusion}
use Rattle.certificate_reasons.specs.Leaves.{IsLeafReason}
use Rattle.certificate_reasons.specs.Steps.{IsStepReason, IsToldStep}

-- of a start both ticks are told
pub both_times : (i : Instance) (c : Choice) (goal : ℕ) (f g : Known) (step : Step) (x : ToldStep) → IsToldStep i c goal f g step x
    → (p before after : ℕ) (process : Bor (List ℕ)) → target i step ≡ Start p → x.conclusion ≡ StartsFrom process before after
    → (before ≡ es_of f p) × (after ≡ es_of g p)
both_times i c goal f g step x told p before after process is said =
    let at_start : IsConclusion i (Start p) (known_value f (Start p)) (known_value g (Start p)) x.conclusion =
    subst (λ (fact : Fact). IsConclusion i fact (known_value f fact) (known_value g fact) x.conclusion) is told.conclusion_is in
    let numbers : IsConclusion i (Start p) (known_value f (Start p)) (known_value g (Start p)) (StartsFrom process before after) =
    subst (λ (k : Conclusion). IsConclusion i (Start p) (known_value f (Start p)) (known_value g (Start p)) k) said at_start in
    (numbers.1, numbers.2)

-- the time is the last one at which the second process of a link starts
pub last_start : (i : Instance) (c : Choice) (goal : ℕ) (f g : Known) (l : ℕ) (x : ToldStep) → IsToldStep i c goal f g (LeLink l) x
    → (start link : ℕ) (after before : Bor (List ℕ)) → x.reason ≡ End (Link after start before link)
    → start ≡ le_of f (link_at i l).after - wcet_of i (link_at i l).after
last_start i c goal f g l x told start link after before said =
    let numbers : IsStepReason i c goal f (LeLink l) (End (Link after start before link)) =
    subst (λ (r : StepReason). IsStepReason i c goal f (LeLink l) r) said told.reason_is in
    numbers.1

-- of 201 steps one isn't told
pub one_more : (i : Instance) (c : Choice) (leaf : Leaf) (r : LeafReason) → length leaf.steps ≡ 201 → IsLeafReason i c leaf r → r.more ≡ 1
one_more i c leaf r is told = told.more_is ∙ ap (λ n. n - 200) is
