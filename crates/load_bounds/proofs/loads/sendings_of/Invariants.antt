-- The messages so far, where the node sends them.
use Rattle.std.proofs.Common.{◌≤◌, length}
use Rattle.load_bounds.specs.Gathered.{AreSendings}
use Rattle.load_bounds.proofs.loads.sendings_of.Given as goal

abbrev pub invariant-loop-m : goal.invariant-loop-m
invariant-loop-m l = record {
  few : length l.sendings ≤ l.m;
  so_far : AreSendings l.facts.instance l.facts.choice l.facts.known l.node l.m l.sendings;
}
