use Rattle.std.proofs.Common.{◌≡◌, ◌∷◌, ◌++◌, [], List, take, ◌+◌, ap, sym, subst, ◌∙◌}
use Rattle.std.proofs.lemmas.List.{take_all, take_more}
use Rattle.ttp_model.specs.declared.step.Step.{Step}
use Rattle.tt_infer.specs.Targets.{target}
use Rattle.used_decisions.specs.Steps.{AreStepsTold, behind}
use Rattle.used_decisions.proofs.ReadSteps.{read_first, read_more_steps}
use Rattle.used_decisions.proofs.reader.read_steps.Goals as goal

pub loop-step-init : goal.loop-step-init
loop-step-init c = read_first c.args.path.now c.args.uses.now c.args.given.now

pub loop-step-preserved : goal.loop-step-preserved
loop-step-preserved c =
    let path = c.args.path.now in
    let steps = c.args.steps.now in
    let step = c.step-item.result in
    let more : take (c.loop-step.step-index + 1) steps ≡ take c.loop-step.step-index steps ++ step ∷ [] =
    take_more steps c.loop-step.step-index step c.loop-step-test.true ∙ ap (λ (x : Step). take c.loop-step.step-index steps ++ x ∷ []) (sym c.step-item.is) in
    let writes : c.target.result ≡ target path.instance step = rw c.instance.ensures at c.target.ensures in
    rw more (read_more_steps path c.args.uses.now c.args.given.now c.loop-step.given c.give.new.self c.loop-step.uses c.read.new.uses
    (take c.loop-step.step-index steps) step
    c.loop-step.invariant c.read.ensures.more c.read.ensures.told c.give.ensures.flags
    (λ so. c.give.ensures.given path.instance (behind [] (take c.loop-step.step-index steps)) step writes so))

pub returns : goal.returns
returns c =
    let all = take_all c.loop-step.step-index c.args.steps.now c.loop-step-test.false in record {
      more = c.loop-step.invariant.more;
      flags = c.loop-step.invariant.flags;
      told =
          λ read nothing. subst (λ (steps : List Step). AreStepsTold c.args.path.now c.loop-step.uses [] steps) all (c.loop-step.invariant.told read nothing);
    }
