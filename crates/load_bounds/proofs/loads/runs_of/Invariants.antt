-- The processes so far, where they are the node's.
use Rattle.std.proofs.Common.{◌≤◌, length}
use Rattle.load_bounds.specs.Gathered.{AreRuns}
use Rattle.load_bounds.proofs.loads.runs_of.Given as goal

abbrev pub invariant-loop-p : goal.invariant-loop-p
invariant-loop-p l = record {
  few : length l.runs ≤ l.p;
  so_far : AreRuns l.facts.instance l.facts.known l.node l.p l.runs;
}
