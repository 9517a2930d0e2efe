use Rattle.std.proofs.Common.{◌≡◌, length, arith}
use Rattle.ttp_model.specs.Parts.{instance_of}
use Rattle.instance_reasons.specs.Circles.{IsCircleStep}
use Rattle.instance_reasons.proofs.Listing.{counted_more}
use Rattle.instance_reasons.proofs.circles.circle_of.Goals as goal

pub loop-k-preserved : goal.loop-k-preserved
loop-k-preserved c =
    counted_more (IsCircleStep (instance_of c.args.parts.now) c.args.processes.now) c.loop-k.k c.loop-k.steps.items c.push.new.self.items
    c.circle_step.result c.loop-k.invariant c.circle_step.ensures c.in_ok-push.ensures.items

pub returns : goal.returns
returns c =
    let all : c.loop-k.k ≡ length c.args.processes.now = omega arith in
    record { steps_are = rw all at c.loop-k.invariant }
