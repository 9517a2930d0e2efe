use Rattle.std.proofs.Common.{arith}
use Rattle.ttp_model.specs.Parts.{instance_of}
use Rattle.instance_reasons.proofs.Walking.{no_link}
use Rattle.instance_reasons.proofs.circles.first_link.Goals as goal

pub returns : goal.returns
returns c = no_link (instance_of c.args.parts.now) c.args.p c.args.q c.loop-l.l (omega (arith, c.loop-l-test.false)) c.loop-l.invariant
