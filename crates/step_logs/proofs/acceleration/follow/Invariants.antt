use Rattle.step_logs.specs.Journal.{Advances}
use Rattle.step_logs.proofs.acceleration.follow.Given as goal

abbrev pub invariant-turns : goal.invariant-turns
invariant-turns l = Advances l.initial.journal l.journal
