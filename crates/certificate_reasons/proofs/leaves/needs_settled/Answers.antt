-- The steps so far are true of all plans.
use Rattle.std.proofs.Common.{◌≡◌, ◌∙◌, arith, below_more, refl, slice_index_or, subst, sym}
use Rattle.std.proofs.lemmas.Bool.{false≢true}
use Rattle.std.proofs.lemmas.List.{get_or_default}
use Rattle.ttp_model.specs.declared.step.Step.{Step}
use Rattle.tt_infer.specs.Table.{IsDominance}
use Rattle.certificate_reasons.proofs.leaves.needs_settled.Goals as goal

pub returns-then-is_dominance : goal.returns-then-is_dominance
returns-then-is_dominance c = (
  λ _. (
    c.loop-k.k,
    c.index-steps-k.result,
    omega (arith, c.loop-k-test.true),
    sym c.index-steps-k.is,
    c.is_dominance.ensures.0 c.if-is_dominance.true,
  ),
  λ _. refl,
)

pub loop-k-preserved : goal.loop-k-preserved
loop-k-preserved c =
    let steps = c.args.steps.now in
    let step = c.index-steps-k.result in
    below_more (λ j. (s : Step) → slice_index_or steps j s ≡ s → ¬ IsDominance s) c.loop-k.k c.loop-k.invariant
    (λ s is dominance.
    let same : step ≡ s = c.index-steps-k.is ∙ (get_or_default steps c.loop-k.k step s (omega (arith, c.loop-k-test.true)) ∙ is) in
    false≢true (sym c.if-is_dominance.false ∙ c.is_dominance.ensures.1 (subst IsDominance (sym same) dominance)))

pub returns : goal.returns
returns c =
    (λ said. absurd (false≢true said), λ any. absurd (c.loop-k.invariant any.0 (omega (arith, any.2, c.loop-k-test.false)) any.1 any.3 any.4))
