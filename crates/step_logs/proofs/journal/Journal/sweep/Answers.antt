use Rattle.std.proofs.Common.{ap, sym, ◌∙◌, arith}
use Rattle.std.proofs.lemmas.Bool.{false≢true}
use Rattle.std.proofs.lemmas.List.{get_or_default}
use Rattle.step_logs.specs.Journal.{Journal, slack_of}
use Rattle.step_logs.proofs.Logs.{advances_trans, lower_yet, idle_next}
use Rattle.step_logs.proofs.journal.Journal.sweep.Goals as goal
use Rattle.step_logs.proofs.journal.Journal.sweep.Goals.{then-sharpens, else-sharpens}

pub loop-step-preserved : goal.loop-step-preserved
loop-step-preserved c =
    let h = c.loop-step.invariant in
    let far = advances_trans _ _ _ h.advances c.try_again.ensures.advances in
    elim c.if-sharpens.branch [
      | then-sharpens w ↦ rw w.sharper-is (record {
        advances = far;
        sharper = λ holds. lower_yet c.args.self.now c.loop-step.self c.try_again.new.self c.loop-step.sharper h.sharper h.same (c.in_ok-sharpens.ensures.sharper w.if-sharpens.true);
        same = λ fails. absurd (false≢true (sym fails));
        idle = λ fails. absurd (false≢true (sym fails));
      })
      | else-sharpens w ↦
          let same = c.in_ok-sharpens.ensures.same w.if-sharpens.false in
          rw w.sharper-is (record {
            advances = far;
            sharper = λ holds. omega (arith, h.sharper holds, ap (λ (log : Journal). slack_of log.facts) same);
            same = λ fails. same ∙ h.same fails;
            idle = λ fails. idle_next c.loop-step.self c.try_again.new.self c.args.steps.now c.loop-step.step-index c.step-item.result same (h.idle fails) (c.in_ok-sharpens.ensures.idle w.if-sharpens.false) (λ d. get_or_default c.args.steps.now c.loop-step.step-index d c.step-item.result c.loop-step-test.true ∙ sym c.step-item.is);
          })
    ]
