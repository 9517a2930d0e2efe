use Rattle.tt_settle.proofs.Turning.{settled_on_one_channel}
use Rattle.tt_settle.proofs.laws.one_channel_turns_no_frame.Goals as goal

pub returns : goal.returns
returns c = settled_on_one_channel
