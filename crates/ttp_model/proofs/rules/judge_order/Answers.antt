use Rattle.std.proofs.Common.{arith}
use Rattle.ttp_model.specs.Rules.{Indices}
use Rattle.ttp_model.proofs.RuleOrder.{KeepsRulesBefore-channels}
use Rattle.ttp_model.proofs.rules.judge_order.Goals as goal

pub cycle-requires-clause-indices : goal.cycle-requires-clause-indices
cycle-requires-clause-indices c = c.requires.each Indices (omega arith)

pub returns : goal.returns
returns c = KeepsRulesBefore-channels _ c.requires (rw c.in_default.is at c.in_ok-cycle.ensures)
