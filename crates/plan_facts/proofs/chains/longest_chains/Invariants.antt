use Rattle.std.proofs.Common.{◌+◌}
use Rattle.plan_facts.specs.Walks.{AreEnds}
use Rattle.plan_facts.proofs.chains.longest_chains.Given as goal

abbrev pub invariant-loop-round : goal.invariant-loop-round
invariant-loop-round l = AreEnds l.instance (l.round + 1) l.ends.items
