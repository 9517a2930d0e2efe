use Rattle.evidence.proofs.Drawn.{process-drawn}
use Rattle.evidence.proofs.model.pictures.picture_with_processes.Goals as goal

pub returns : goal.returns
returns c = λ p inside. rw c.in_ok-text.ensures (process-drawn c.args.instance.now c.args.plan.now c.args.width c.args.shown p inside)
