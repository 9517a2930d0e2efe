use Rattle.std.proofs.Common.{[], ◌∷◌, ◌++◌, ◌≡◌, List, take, ap, ◌∙◌}
use Rattle.ttp_model.specs.declared.step.Step.{Step}
use Rattle.ttp_model.specs.declared.step.Step.TheVariants.{XRound}
use Rattle.ttp_model.specs.declared.step.Leaf.{Leaf}
use Rattle.side_by_side.proofs.StepByStep.{cut_there}
use Rattle.side_by_side.proofs.standing.cut_short.Goals as goal

pub returns : goal.returns
returns c =
    let leaf = c.args.leaf.now in
    let items : c.in_ok-steps.steps.items ≡ take c.args.place leaf.steps = c.in_ok-steps.ensures ∙ (c.split_at.ensures.front ∙ ap (take c.args.place) c.as_slice.ensures.value) in
    let steps = c.new.ensures ∙ (c.in_ok-push.ensures.items ∙ ap (λ (xs : List Step). xs ++ XRound c.in-Some.message ∷ []) items) in
    let made : List Step → Leaf = λ xs. record { goal = leaf.goal; steps = xs } in
    cut_there c.args.facts.now leaf (made c.new.result) c.args.place c.in-Some.message c.requires c.in-Some.ensures.some (ap made steps)
