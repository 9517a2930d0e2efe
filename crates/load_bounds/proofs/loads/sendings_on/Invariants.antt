-- The messages so far, where the node sends them on the channel.
use Rattle.std.proofs.Common.{◌≤◌, length}
use Rattle.load_bounds.specs.Gathered.{AreSendingsOn}
use Rattle.load_bounds.proofs.loads.sendings_on.Given as goal

abbrev pub invariant-loop-m : goal.invariant-loop-m
invariant-loop-m l = record {
  few : length l.sendings ≤ l.m;
  so_far : AreSendingsOn l.facts.instance l.facts.choice l.facts.known l.channel l.node l.m l.sendings;
}
