-- A plan that keeps all rules is valid, and has no fault.
use Rattle.std.proofs.Common.{◌<◌, length, arith}
use Rattle.ttp_model.specs.declared.plan.Plan.{Plan}
use Rattle.ttp_model.specs.declared.fault.PlanPart.TheVariants as part
use Rattle.ttp_model.specs.declared.fault.PlanFault.{PlanFault}
use Rattle.ttp_model.specs.declared.fault.PlanFault.TheVariants.{WrongLength, WrongOrder, WrongCapacity, TooEarly, TooLate, Overlap, BrokenLink, NotReady, NotArrived, Overfull, OverfullOn, WrongChannel}
use Rattle.ttp_model.specs.Instance.{Instance}
use Rattle.ttp_model.specs.Plans.{Lengths, Order, Capacities, Releases, Ends, Overlaps, Links, Readiness, Arrivals, Frames, Channels, IsValid, Keeps}
use Rattle.ttp_model.specs.Faults.{IsFirstFault, KeepsBefore}

-- all eleven, from those on lists and processes and the four on messages
pub IsValid_from : (i : Instance) (plan : Plan) → KeepsBefore i plan Readiness → Keeps i plan Readiness → Keeps i plan Arrivals → Keeps i plan Frames → Keeps i plan Channels → IsValid i plan
IsValid_from i plan before ready arrived frames on_own = record {
  lengths = before.each Lengths (omega arith);
  order = before.each Order (omega arith);
  capacities = before.each Capacities (omega arith);
  released = before.each Releases (omega arith);
  in_time = before.each Ends (omega arith);
  apart = before.each Overlaps (omega arith);
  links = before.each Links (omega arith);
  ready = ready;
  arrived = arrived;
  frames = frames;
  on_own = on_own;
}

pub IsValid-without_fault : (i : Instance) (plan : Plan) (fault : PlanFault) → IsValid i plan → ¬ IsFirstFault i plan fault
IsValid-without_fault i plan (WrongLength part.Order) v f = f.1 v.lengths.order
IsValid-without_fault i plan (WrongLength part.Capacities) v f = f.1.1 v.lengths.capacities
IsValid-without_fault i plan (WrongLength part.Starts) v f = f.1.2 v.lengths.starts
IsValid-without_fault i plan (WrongLength part.Rounds) v f = f.1.3 v.lengths.rounds
IsValid-without_fault i plan (WrongLength part.Channels) v f = f.1.4 v.lengths.channels
IsValid-without_fault i plan (WrongOrder k) v f = f.1.fails (v.order.each k f.1.within)
IsValid-without_fault i plan (WrongCapacity n) v f = f.1.fails (v.capacities n f.1.within)
IsValid-without_fault i plan (TooEarly p) v f = f.1.fails (v.released p f.1.within)
IsValid-without_fault i plan (TooLate p) v f = f.1.fails (v.in_time p f.1.within)
IsValid-without_fault i plan (Overlap p q) v f =
    let inside : p < length i.processes = omega (arith, f.1.in_order, f.1.within) in
    f.1.overlap (v.apart p inside q f.1.in_order f.1.within)
IsValid-without_fault i plan (BrokenLink l) v f = f.1.fails (v.links l f.1.within)
IsValid-without_fault i plan (NotReady m) v f = f.1.fails (v.ready m f.1.within)
IsValid-without_fault i plan (NotArrived m q) v f = f.1.first.fails (v.arrived m f.1.within f.1.place f.1.first.within)
IsValid-without_fault i plan (Overfull n r) v f = f.1.first.fails (v.frames f.1.message f.1.first.within)
IsValid-without_fault i plan (OverfullOn n r c) v f = f.1.first.fails (v.frames f.1.message f.1.first.within)
IsValid-without_fault i plan (WrongChannel m) v f = f.1.fails (v.on_own m f.1.within)
