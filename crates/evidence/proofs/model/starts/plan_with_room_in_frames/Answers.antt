use Rattle.evidence.proofs.Earliest.{has_room}
use Rattle.evidence.proofs.model.starts.plan_with_room_in_frames.Goals as goal

pub returns : goal.returns
returns c = λ n r k within. has_room _ _ _ n r k c.in_ok-earliest.ensures (λ plan valid. c.frames_fit.ensures c.args.instance.now plan n r k valid within)
