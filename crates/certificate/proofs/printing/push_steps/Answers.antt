use Rattle.certificate.specs.Spelling.{step_text, StepHasText}
use Rattle.certificate.proofs.Pushed.{more_text, more_fit, all_fit}
use Rattle.certificate.proofs.printing.push_steps.Goals as goal

pub loop-step-preserved : goal.loop-step-preserved
loop-step-preserved c = (
  more_text step_text c.args.steps.now c.loop-step.step-index c.step-item.result c.args.text.now.items c.loop-step.text.items c.push_step.new.text.items
      c.loop-step-test.true c.step-item.is c.loop-step.invariant.0 c.in_ok-push_step.ensures.text,
  more_fit StepHasText c.args.steps.now c.loop-step.step-index c.step-item.result c.loop-step-test.true c.step-item.is c.loop-step.invariant.1
      c.push_step.ensures.fits,
)

pub returns-clause-fits : goal.returns-clause-fits
returns-clause-fits c = all_fit StepHasText c.args.steps.now c.loop-step.step-index c.loop-step-test.false c.loop-step.invariant.1
