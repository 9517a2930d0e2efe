use Rattle.evidence.proofs.SettledFrames.{none_is_turned_of}
use Rattle.evidence.proofs.commands.plans.settled_frames_are_not_turned.Goals as goal

pub returns : goal.returns
returns c = none_is_turned_of c.args.instance.now c.settle.result _ c.messages-messages.ensures.instance c.settle.ensures.settled
