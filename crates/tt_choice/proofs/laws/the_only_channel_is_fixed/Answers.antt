use Rattle.tt_choice.proofs.Channels.{only_channel}
use Rattle.tt_choice.proofs.laws.the_only_channel_is_fixed.Goals as goal

pub returns : goal.returns
returns c = only_channel
