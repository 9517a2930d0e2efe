use Rattle.step_logs.specs.Journal.{Advances}
use Rattle.step_logs.proofs.trim.try_marked.Given as goal

abbrev pub invariant-tries : goal.invariant-tries
invariant-tries g l = Advances l.initial.journal l.journal
