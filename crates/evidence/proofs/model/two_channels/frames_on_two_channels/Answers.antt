use Rattle.evidence.proofs.TwoChannels.{one_on_each}
use Rattle.evidence.proofs.TwoMessages.{is_instance}
use Rattle.evidence.proofs.model.two_channels.frames_on_two_channels.Goals as goal

pub returns-clause-instance : goal.returns-clause-instance
returns-clause-instance c = is_instance

pub returns-clause-valid : goal.returns-clause-valid
returns-clause-valid c = one_on_each
