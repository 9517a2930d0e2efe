-- Which reason a fault of a plan has: the one of its rule, at its place. Own profile.
use Rattle.std.specs.Prelude.{None, Some}
use Rattle.ttp_model.specs.declared.fault.PlanFault.{PlanFault}
use Rattle.ttp_model.specs.declared.fault.PlanFault.TheVariants as fault
use Rattle.ttp_model.specs.declared.plan.Plan.{Plan}
use Rattle.ttp_model.specs.Instance.{Instance}
use Rattle.plan_reasons.specs.declared.reason.PlanReason.{PlanReason}
use Rattle.plan_reasons.specs.declared.reason.PlanReason.TheVariants as reason
use Rattle.plan_reasons.specs.Frames.{IsOverfull}
use Rattle.plan_reasons.specs.Lists.{IsWrongCapacity, IsWrongLength, IsWrongPosition}
use Rattle.plan_reasons.specs.Messages.{IsNotArrived, IsNotReady, IsWrongChannel}
use Rattle.plan_reasons.specs.Processes.{IsBrokenLink, IsOverlap, IsTooEarly, IsTooLate}

abbrev pub IsReasonOf : Instance → Plan → PlanFault → PlanReason → Type 0
IsReasonOf i plan (fault.WrongLength list) (reason.WrongLength r) = IsWrongLength i plan list r
IsReasonOf i plan (fault.WrongOrder k) (reason.WrongPosition r) = IsWrongPosition i plan k r
IsReasonOf i plan (fault.WrongCapacity n) (reason.WrongCapacity r) = IsWrongCapacity i plan n r
IsReasonOf i plan (fault.TooEarly p) (reason.TooEarly r) = IsTooEarly i plan p r
IsReasonOf i plan (fault.TooLate p) (reason.TooLate r) = IsTooLate i plan p r
IsReasonOf i plan (fault.Overlap p q) (reason.Overlap r) = IsOverlap i plan p q r
IsReasonOf i plan (fault.BrokenLink l) (reason.BrokenLink r) = IsBrokenLink i plan l r
IsReasonOf i plan (fault.NotReady m) (reason.NotReady r) = IsNotReady i plan m r
IsReasonOf i plan (fault.NotArrived m q) (reason.NotArrived r) = IsNotArrived i plan m q r
IsReasonOf i plan (fault.Overfull n r) (reason.Overfull x) = IsOverfull i plan n r None x
IsReasonOf i plan (fault.OverfullOn n r c) (reason.Overfull x) = IsOverfull i plan n r (Some c) x
IsReasonOf i plan (fault.WrongChannel m) (reason.WrongChannel r) = IsWrongChannel i plan m r
IsReasonOf i plan _ _ = ⊥
