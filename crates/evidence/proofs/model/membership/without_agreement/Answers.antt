use Rattle.evidence.proofs.Lost.{none_delivered}
use Rattle.evidence.proofs.model.membership.without_agreement.Goals as goal

pub returns : goal.returns
returns c = λ slot i m inside differ. none_delivered m i c.args.medl.now c.args.losses.now _ slot c.replay.ensures.ok inside differ
