use Rattle.evidence.proofs.Drawn.{delivery-drawn}
use Rattle.evidence.proofs.model.pictures.picture_with_deliveries.Goals as goal

pub returns : goal.returns
returns c = λ m q inside there. rw c.in_ok-text.ensures (delivery-drawn c.args.instance.now c.args.plan.now c.args.width c.args.shown m q inside there)
