use Rattle.std.proofs.Common.{arith}
use Rattle.evidence.proofs.Lost.{has_left}
use Rattle.evidence.proofs.model.membership.lost_everywhere.Goals as goal

pub returns : goal.returns
returns c = λ slot loses last. has_left c.args.medl.now c.args.losses.now _ slot c.replay.ensures.ok (c.replay.ensures.leave slot loses (omega arith)) last
