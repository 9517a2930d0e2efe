use Rattle.std.proofs.Common.{arith}
use Rattle.rates_model.specs.Rules.{Throughs}
use Rattle.rates_model.proofs.rules.judge_processes.Goals as goal

pub unread-requires-clause-few : goal.unread-requires-clause-few
unread-requires-clause-few c = c.requires.each Throughs (omega arith)
