-- A fault shows that the plan isn't valid.
use Rattle.std.proofs.Common.{arith}
use Rattle.ttp_model.specs.declared.plan.Plan.{Plan}
use Rattle.ttp_model.specs.declared.fault.PlanPart.TheVariants as part
use Rattle.ttp_model.specs.declared.fault.PlanFault.{PlanFault}
use Rattle.ttp_model.specs.declared.fault.PlanFault.TheVariants.{WrongLength, WrongOrder, WrongCapacity, TooEarly, TooLate, Overlap, BrokenLink, NotReady, NotArrived, Overfull, OverfullOn, WrongChannel}
use Rattle.ttp_model.specs.Instance.{Instance}
use Rattle.ttp_model.specs.Plans.{IsValid}
use Rattle.ttp_model.specs.Faults.{IsFirstFault}

pub faulty_is_not_valid : (i : Instance) (plan : Plan) (fault : PlanFault) → IsFirstFault i plan fault → ¬ IsValid i plan
faulty_is_not_valid i plan (WrongLength part.Order) f v = f.1 v.lengths.order
faulty_is_not_valid i plan (WrongLength part.Capacities) f v = f.1.1 v.lengths.capacities
faulty_is_not_valid i plan (WrongLength part.Starts) f v = f.1.2 v.lengths.starts
faulty_is_not_valid i plan (WrongLength part.Rounds) f v = f.1.3 v.lengths.rounds
faulty_is_not_valid i plan (WrongLength part.Channels) f v = f.1.4 v.lengths.channels
faulty_is_not_valid i plan (WrongOrder k) f v = f.1.fails (v.order.each k f.1.within)
faulty_is_not_valid i plan (WrongCapacity n) f v = f.1.fails (v.capacities n f.1.within)
faulty_is_not_valid i plan (TooEarly p) f v = f.1.fails (v.released p f.1.within)
faulty_is_not_valid i plan (TooLate p) f v = f.1.fails (v.in_time p f.1.within)
faulty_is_not_valid i plan (Overlap p q) f v = f.1.overlap (v.apart p (omega (arith, f.1.in_order, f.1.within)) q f.1.in_order f.1.within)
faulty_is_not_valid i plan (BrokenLink l) f v = f.1.fails (v.links l f.1.within)
faulty_is_not_valid i plan (NotReady m) f v = f.1.fails (v.ready m f.1.within)
faulty_is_not_valid i plan (NotArrived m q) f v = f.1.first.fails (v.arrived m f.1.within f.1.place f.1.first.within)
faulty_is_not_valid i plan (Overfull n r) f v = f.1.first.fails (v.frames f.1.message f.1.first.within)
faulty_is_not_valid i plan (OverfullOn n r c) f v = f.1.first.fails (v.frames f.1.message f.1.first.within)
faulty_is_not_valid i plan (WrongChannel m) f v = f.1.fails (v.on_own m f.1.within)
