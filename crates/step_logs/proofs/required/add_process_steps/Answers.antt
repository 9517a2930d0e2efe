use Rattle.std.proofs.Common.{length, arith, ap, below_more}
use Rattle.step_logs.proofs.Lists.{keeps_three, process_steps_pushed, process_steps_kept}
use Rattle.step_logs.proofs.required.add_process_steps.Goals as goal

pub loop-p-preserved : goal.loop-p-preserved
loop-p-preserved c = rw (c.in_ok-add-3.ensures, c.in_ok-add-2.ensures, c.in_ok-add.ensures) (record {
  kept = λ step has. keeps_three _ _ _ _ step (c.loop-p.invariant.kept step has);
  added = below_more _ _ (λ k h. process_steps_kept _ _ k (keeps_three _ _ _ _) (c.loop-p.invariant.added k h)) (process_steps_pushed _ _);
})

pub returns-clause-added : goal.returns-clause-added
returns-clause-added c = λ p inside. c.loop-p.invariant.added p (omega (arith, inside, ap length c.processes.ensures.value, c.loop-p-test.false))
