use Rattle.ttp_model.specs.Lists.{EachBelow}
use Rattle.ttp_model.specs.Rules.{CanEndInTime}
use Rattle.endless_schedules.specs.Aging.{aged}
use Rattle.endless_schedules.proofs.windows.first_without_room.Given as goal

abbrev pub invariant-loop-p : goal.invariant-loop-p
invariant-loop-p l = EachBelow l.p (CanEndInTime (aged l.aging.rates.now l.aging.chain l.age))
