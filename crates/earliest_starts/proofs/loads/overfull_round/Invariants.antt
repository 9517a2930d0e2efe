use Rattle.earliest_starts.proofs.FrameLoads.{AreCounted}
use Rattle.earliest_starts.proofs.loads.overfull_round.Given as goal

abbrev pub invariant-loop-m : goal.invariant-loop-m
invariant-loop-m l = AreCounted l.instance l.choice l.n l.k l.m l.capacity l.loads
