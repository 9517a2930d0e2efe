use Rattle.earliest_starts.specs.Starts.{AreFloors}
use Rattle.earliest_starts.proofs.floors.floors.Given as goal

abbrev pub invariant-loop-m : goal.invariant-loop-m
invariant-loop-m l = AreFloors l.instance l.choice l.m l.floors.items
