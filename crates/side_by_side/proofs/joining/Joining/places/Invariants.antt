use Rattle.std.proofs.Common.{◌≡◌}
use Rattle.side_by_side.specs.Steps.{IsJoiningOf, IsStep, work_of}
use Rattle.side_by_side.proofs.joining.Joining.places.Given as goal

abbrev pub invariant-places : goal.invariant-places
invariant-places l = record {
  step : IsStep l.fn.self l.self;
  joining : IsJoiningOf l.self;
  room : l.room.instance ≡ l.self.instance.now;
}

abbrev pub decreases-places : goal.decreases-places
decreases-places l = work_of l.self
