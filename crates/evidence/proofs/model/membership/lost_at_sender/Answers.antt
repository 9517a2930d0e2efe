use Rattle.evidence.proofs.Lost.{not_at_sender}
use Rattle.evidence.proofs.model.membership.lost_at_sender.Goals as goal

pub returns : goal.returns
returns c = λ k inside same. not_at_sender c.args.medl.now c.args.losses.now _ k c.replay.ensures.able inside same
