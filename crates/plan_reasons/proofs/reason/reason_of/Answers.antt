use Rattle.std.proofs.Common.{arith}
use Rattle.ttp_model.specs.Plans.{Arrivals, Ends, Lengths, Readiness}
use Rattle.plan_reasons.proofs.Failing.{above, late, together, too_full, uneven, unheard}
use Rattle.plan_reasons.proofs.Places.{frame_inside, laid, receiver_inside}
use Rattle.plan_reasons.proofs.reason.reason_of.Goals as goal

pub wrong_length-requires : goal.wrong_length-requires
wrong_length-requires c = uneven c.args.instance.now c.args.plan.now _ (rw c.in-WrongLength.is at c.requires).1

pub wrong_position-requires-clause-length : goal.wrong_position-requires-clause-length
wrong_position-requires-clause-length c = ((rw c.in-WrongOrder.is at c.requires).0.each Lengths (omega arith)).order

pub wrong_position-requires-clause-inside : goal.wrong_position-requires-clause-inside
wrong_position-requires-clause-inside c = (rw c.in-WrongOrder.is at c.requires).1.within

pub wrong_position-requires-clause-wrong : goal.wrong_position-requires-clause-wrong
wrong_position-requires-clause-wrong c = (rw c.in-WrongOrder.is at c.requires).1.fails

pub wrong_capacity-requires-clause-length : goal.wrong_capacity-requires-clause-length
wrong_capacity-requires-clause-length c = ((rw c.in-WrongCapacity.is at c.requires).0.each Lengths (omega arith)).capacities

pub wrong_capacity-requires-clause-inside : goal.wrong_capacity-requires-clause-inside
wrong_capacity-requires-clause-inside c = (rw c.in-WrongCapacity.is at c.requires).1.within

pub wrong_capacity-requires-clause-wrong : goal.wrong_capacity-requires-clause-wrong
wrong_capacity-requires-clause-wrong c = λ own. (rw c.in-WrongCapacity.is at c.requires).1.fails (record { own = own })

pub too_early-requires-clause-lengths : goal.too_early-requires-clause-lengths
too_early-requires-clause-lengths c = (rw c.in-TooEarly.is at c.requires).0.each Lengths (omega arith)

pub too_early-requires-clause-inside : goal.too_early-requires-clause-inside
too_early-requires-clause-inside c = (rw c.in-TooEarly.is at c.requires).1.within

pub too_early-requires-clause-wrong : goal.too_early-requires-clause-wrong
too_early-requires-clause-wrong c = above _ _ (rw c.in-TooEarly.is at c.requires).1.fails

pub too_late-requires-clause-lengths : goal.too_late-requires-clause-lengths
too_late-requires-clause-lengths c = (rw c.in-TooLate.is at c.requires).0.each Lengths (omega arith)

pub too_late-requires-clause-inside : goal.too_late-requires-clause-inside
too_late-requires-clause-inside c = (rw c.in-TooLate.is at c.requires).1.within

pub too_late-requires-clause-wrong : goal.too_late-requires-clause-wrong
too_late-requires-clause-wrong c = late c.args.instance.now c.args.plan.now c.in-TooLate.p (rw c.in-TooLate.is at c.requires).1.fails

pub overlap_of-requires-clause-lengths : goal.overlap_of-requires-clause-lengths
overlap_of-requires-clause-lengths c = (rw c.in-Overlap.is at c.requires).0.each Lengths (omega arith)

pub overlap_of-requires-clause-first : goal.overlap_of-requires-clause-first
overlap_of-requires-clause-first c = let f = rw c.in-Overlap.is at c.requires in omega (arith, f.1.in_order, f.1.within)

pub overlap_of-requires-clause-second : goal.overlap_of-requires-clause-second
overlap_of-requires-clause-second c = (rw c.in-Overlap.is at c.requires).1.within

pub overlap_of-requires-clause-wrong : goal.overlap_of-requires-clause-wrong
overlap_of-requires-clause-wrong c =
    let f = rw c.in-Overlap.is at c.requires in
    together c.args.instance.now c.args.plan.now c.in-Overlap.p c.in-Overlap.q c.nodes-nodes.ensures.instance (omega (arith, f.1.in_order, f.1.within)) f.1.within f.1.overlap

pub broken_link-requires-clause-lengths : goal.broken_link-requires-clause-lengths
broken_link-requires-clause-lengths c = (rw c.in-BrokenLink.is at c.requires).0.each Lengths (omega arith)

pub broken_link-requires-clause-inside : goal.broken_link-requires-clause-inside
broken_link-requires-clause-inside c = (rw c.in-BrokenLink.is at c.requires).1.within

pub broken_link-requires-clause-wrong : goal.broken_link-requires-clause-wrong
broken_link-requires-clause-wrong c = above _ _ (rw c.in-BrokenLink.is at c.requires).1.fails

pub not_ready-requires-clause-laid : goal.not_ready-requires-clause-laid
not_ready-requires-clause-laid c = laid _ _ Readiness (rw c.in-NotReady.is at c.requires).0 (omega arith)

pub not_ready-requires-clause-in_time : goal.not_ready-requires-clause-in_time
not_ready-requires-clause-in_time c = (rw c.in-NotReady.is at c.requires).0.each Ends (omega arith)

pub not_ready-requires-clause-inside : goal.not_ready-requires-clause-inside
not_ready-requires-clause-inside c = (rw c.in-NotReady.is at c.requires).1.within

pub not_ready-requires-clause-wrong : goal.not_ready-requires-clause-wrong
not_ready-requires-clause-wrong c = above _ _ (rw c.in-NotReady.is at c.requires).1.fails

pub not_arrived-requires-clause-laid : goal.not_arrived-requires-clause-laid
not_arrived-requires-clause-laid c = laid _ _ Arrivals (rw c.in-NotArrived.is at c.requires).0 (omega arith)

pub not_arrived-requires-clause-inside : goal.not_arrived-requires-clause-inside
not_arrived-requires-clause-inside c = (rw c.in-NotArrived.is at c.requires).1.within

pub not_arrived-requires-clause-receiver : goal.not_arrived-requires-clause-receiver
not_arrived-requires-clause-receiver c = receiver_inside _ c.args.plan.now _ _ c.nodes-nodes.ensures.instance (rw c.in-NotArrived.is at c.requires).1

pub not_arrived-requires-clause-wrong : goal.not_arrived-requires-clause-wrong
not_arrived-requires-clause-wrong c = above _ _ (unheard _ _ _ _ (rw c.in-NotArrived.is at c.requires).1)

pub overfull_frame-requires-clause-lengths : goal.overfull_frame-requires-clause-lengths
overfull_frame-requires-clause-lengths c = (rw c.in-Overfull.is at c.requires).0.each Lengths (omega arith)

pub overfull_frame-requires-clause-inside : goal.overfull_frame-requires-clause-inside
overfull_frame-requires-clause-inside c = frame_inside _ c.args.plan.now _ _ _ _ c.nodes-nodes.ensures.instance (rw c.in-Overfull.is at c.requires).1

pub overfull_frame-requires-clause-wrong : goal.overfull_frame-requires-clause-wrong
overfull_frame-requires-clause-wrong c = too_full _ _ _ _ _ _ (rw c.in-Overfull.is at c.requires).1

pub overfull_frame-requires-in-OverfullOn-clause-lengths : goal.overfull_frame-requires-in-OverfullOn-clause-lengths
overfull_frame-requires-in-OverfullOn-clause-lengths c = (rw c.in-OverfullOn.is at c.requires).0.each Lengths (omega arith)

pub overfull_frame-requires-in-OverfullOn-clause-inside : goal.overfull_frame-requires-in-OverfullOn-clause-inside
overfull_frame-requires-in-OverfullOn-clause-inside c = frame_inside _ c.args.plan.now _ _ _ _ c.nodes-nodes.ensures.instance (rw c.in-OverfullOn.is at c.requires).1

pub overfull_frame-requires-in-OverfullOn-clause-wrong : goal.overfull_frame-requires-in-OverfullOn-clause-wrong
overfull_frame-requires-in-OverfullOn-clause-wrong c = too_full _ _ _ _ _ _ (rw c.in-OverfullOn.is at c.requires).1

pub wrong_channel-requires-clause-lengths : goal.wrong_channel-requires-clause-lengths
wrong_channel-requires-clause-lengths c = (rw c.in-WrongChannel.is at c.requires).0.each Lengths (omega arith)

pub wrong_channel-requires-clause-inside : goal.wrong_channel-requires-clause-inside
wrong_channel-requires-clause-inside c = (rw c.in-WrongChannel.is at c.requires).1.within

pub wrong_channel-requires-clause-wrong : goal.wrong_channel-requires-clause-wrong
wrong_channel-requires-clause-wrong c = (rw c.in-WrongChannel.is at c.requires).1.fails
