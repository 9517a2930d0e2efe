use Rattle.std.proofs.Common.{◌≡◌, length}
use Rattle.earliest_starts.specs.Starts.{AreSettledBelow}
use Rattle.earliest_starts.proofs.starts.settle.Given as goal

abbrev pub invariant-loop-rank : goal.invariant-loop-rank
invariant-loop-rank l =
    (length l.starts.items ≡ length l.instance.processes)
    × AreSettledBelow l.instance l.choice l.ranks l.floors l.starts.items l.rank
