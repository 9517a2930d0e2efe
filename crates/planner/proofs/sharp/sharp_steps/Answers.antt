use Rattle.std.proofs.Common.{arith, ◌+◌, drop, sym, ap, ◌∙◌, subst}
use Rattle.tt_infer.specs.Facts.{Facts, after}
use Rattle.tt_infer.specs.Leaves.{LeadSharply}
use Rattle.planner.specs.Sharp.{LeadsToEnd}
use Rattle.planner.proofs.SharpSteps.{end_next}
use Rattle.planner.proofs.sharp.sharp_steps.Goals as goal

-- the next step leads on from what is known, and the others from there
pub loop-step-preserved : goal.loop-step-preserved
loop-step-preserved c =
    let h = c.loop-step.invariant in
    let s = c.loop-step.facts in
    let new = c.keep_sharp.new.facts in
    let steps = c.args.steps.now in
    let k = c.loop-step.step-index in
    let on = end_next s steps k c.step-item.result c.loop-step-test.true c.step-item.is h.leads in
    let here = c.keep_sharp.ensures.about ∙ ap (after s) (c.keep_sharp.ensures.next on.0 on.1) in
    record {
      about = c.keep_sharp.ensures.about ∙ ap (λ (f : Facts). after f new.known) h.about;
      leads = subst (λ (f : Facts). LeadsToEnd f (drop (k + 1) steps)) (sym here) on.2;
      few = omega (arith, h.few, c.in_ok-keep_sharp.ensures.few);
      sharp = subst (λ (f : Facts). LeadSharply f.instance f.choice f.goal c.args.facts.now.known c.keep_sharp.new.kept.items f.known) (sym here)
          (c.in_ok-keep_sharp.ensures.kept c.args.facts.now.known on.0 on.1 h.sharp);
    }
