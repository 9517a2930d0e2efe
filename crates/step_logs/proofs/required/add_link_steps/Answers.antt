use Rattle.std.proofs.Common.{below_more}
use Rattle.step_logs.proofs.Lists.{keeps_pushed, has_pushed}
use Rattle.step_logs.proofs.required.add_link_steps.Goals as goal

pub loop-l-preserved : goal.loop-l-preserved
loop-l-preserved c = rw c.in_ok-add.ensures (record {
  kept = λ step has. keeps_pushed _ _ step (c.loop-l.invariant.kept step has);
  added = below_more _ _ (λ k h. keeps_pushed _ _ _ (c.loop-l.invariant.added k h)) (has_pushed _ _);
})
