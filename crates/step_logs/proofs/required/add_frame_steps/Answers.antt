use Rattle.std.proofs.Common.{arith, below_more}
use Rattle.step_logs.proofs.Lists.{keeps_pushed, has_pushed, frame_step_pushed, frame_steps_of}
use Rattle.step_logs.proofs.required.add_frame_steps.Goals as goal

pub returns-then-channels-eq1-clause-kept : goal.returns-then-channels-eq1-clause-kept
returns-then-channels-eq1-clause-kept c = rw c.in_ok-add.ensures (keeps_pushed _ _)

pub returns-then-channels-eq1-clause-added : goal.returns-then-channels-eq1-clause-added
returns-then-channels-eq1-clause-added c = rw c.in_ok-add.ensures (frame_step_pushed _ _ _ _ c.if-channels-eq1.true)

pub loop-k-preserved : goal.loop-k-preserved
loop-k-preserved c = rw c.in_ok-add-2.ensures (record {
  kept = λ step has. keeps_pushed _ _ step (c.loop-k.invariant.kept step has);
  added = below_more _ _ (λ j h. keeps_pushed _ _ _ (c.loop-k.invariant.added j h)) (has_pushed _ _);
})

pub returns-clause-added : goal.returns-clause-added
returns-clause-added c = frame_steps_of _ _ _ _ c.if-channels-eq1.false (λ k inside. c.loop-k.invariant.added k (omega (arith, inside, c.loop-k-test.false)))
