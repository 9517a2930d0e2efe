use Rattle.step_logs.specs.Journal.{Advances, slack_of}
use Rattle.step_logs.proofs.journal.Journal.settle.Given as goal

abbrev pub invariant-again : goal.invariant-again
invariant-again l = Advances l.initial.self l.self

abbrev pub decreases-again : goal.decreases-again
decreases-again l = slack_of l.self.facts
