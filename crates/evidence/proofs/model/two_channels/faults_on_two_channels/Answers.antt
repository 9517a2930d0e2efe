use Rattle.evidence.proofs.TwoChannels.{together, doubled, unknown, not_alone, on_both}
use Rattle.evidence.proofs.model.two_channels.faults_on_two_channels.Goals as goal

pub returns : goal.returns
returns c = record { first = together; second = doubled; unknown = unknown; alone = not_alone; both = on_both }
