use Rattle.std.proofs.Common.{vec_len}
use Rattle.step_logs.specs.Journal.{Advances}
use Rattle.step_logs.proofs.acceleration.try_all.Given as goal

abbrev pub invariant-tries : goal.invariant-tries
invariant-tries l = Advances l.initial.journal l.journal

abbrev pub decreases-tries : goal.decreases-tries
decreases-tries l = vec_len l.steps
