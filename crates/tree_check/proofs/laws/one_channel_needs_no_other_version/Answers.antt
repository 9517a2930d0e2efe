use Rattle.tree_check.proofs.OneChannel.{one_channel_is_allowed}
use Rattle.tree_check.proofs.laws.one_channel_needs_no_other_version.Goals as goal

pub returns : goal.returns
returns c = one_channel_is_allowed
