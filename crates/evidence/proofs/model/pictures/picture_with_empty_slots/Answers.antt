use Rattle.evidence.proofs.Drawn.{slot-drawn}
use Rattle.evidence.proofs.model.pictures.picture_with_empty_slots.Goals as goal

pub returns : goal.returns
returns c =
    λ r k channel round inside there none. rw c.in_ok-text.ensures
    (slot-drawn c.args.instance.now c.args.plan.now c.args.width r k channel round inside there none)
