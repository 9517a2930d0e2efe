use Rattle.std.proofs.Common.{ℕ, arith, below_more}
use Rattle.step_logs.specs.Required.{HasReceiverSteps}
use Rattle.step_logs.proofs.Lists.{keeps_two, receiver_steps_pushed, receiver_steps_kept, from_places}
use Rattle.step_logs.proofs.required.add_receiver_steps.Goals as goal

pub loop-q-preserved : goal.loop-q-preserved
loop-q-preserved c = rw (c.in_ok-add-2.ensures, c.in_ok-add.ensures) (record {
  kept = λ step has. keeps_two _ _ _ step (c.loop-q.invariant.kept step has);
  added = below_more _ _ (λ k h. receiver_steps_kept _ _ _ _ (keeps_two _ _ _) (c.loop-q.invariant.added k h)) (receiver_steps_pushed _ _ _);
})

pub returns-clause-added : goal.returns-clause-added
returns-clause-added c = from_places (λ (q : ℕ). HasReceiverSteps c.loop-q.steps.items c.args.m q) c.args.receivers.now
    (λ k inside. c.loop-q.invariant.added k (omega (arith, inside, c.loop-q-test.false)))
