use Rattle.std.proofs.lemmas.Result.{IfOk-weaker}
use Rattle.evidence.proofs.ChannelLines.{first_version_speaks_of_none}
use Rattle.evidence.proofs.commands.certificates.first_version_is_read_without_channels.Goals as goal

pub returns : goal.returns
returns c = IfOk-weaker c.read.result _ _ (λ cert spells. first_version_speaks_of_none cert spells.value.allowed) c.read.ensures.found
