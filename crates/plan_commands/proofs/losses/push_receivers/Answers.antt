use Rattle.std.proofs.Common.{◌∙◌, sym}
use Rattle.plan_commands.proofs.LossLists.{kept_receiver, left_sender}
use Rattle.plan_commands.proofs.losses.push_receivers.Goals as goal
use Rattle.plan_commands.proofs.losses.push_receivers.Goals.{then-n-sender+in_ok-push, else-n-sender}

pub loop-n-preserved : goal.loop-n-preserved
loop-n-preserved c = elim c.if-n-sender.branch [
  | then-n-sender+in_ok-push w ↦ rw (w.losses-is, w.in_ok-push.ensures.items, w.loss_at.ensures)
      (kept_receiver c.args.word _ _ c.loop-n.n _ c.loop-n.invariant (λ same. w.if-n-sender.true (same ∙ sym c.sender_at-sender.ensures)))
  | else-n-sender w ↦ rw w.losses-is (left_sender c.args.word _ _ c.loop-n.n _ c.loop-n.invariant (w.if-n-sender.false ∙ c.sender_at-sender.ensures))
]
