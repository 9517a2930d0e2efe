use Rattle.std.proofs.Common.{◌≡◌, ◌<◌, ◌≤◌, ◌++◌, [], length}
use Rattle.cert_check.specs.UnderWay.{Stands, to_come}
use Rattle.cert_check.proofs.judge.Judge.through.Given as goal

abbrev pub invariant-batches : goal.invariant-batches
invariant-batches g l = record {
  stands : Stands l.self.instance.now l.self.low g.R.Read.remaining l.fn.stream l.stream l.batches.walk
      (l.front.items ++ l.batches.held.leaves.items) l.batches.ahead;
  none_held : l.batches.held.leaves.items ≡ [];
  together : length l.front.items ≤ l.batches.held.most;
  some : 0 < l.batches.held.most;
}

abbrev pub decreases-batches : goal.decreases-batches
decreases-batches g l = to_come l.batches.ahead l.stream
