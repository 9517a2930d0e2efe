use Rattle.std.proofs.Common.{◌≡◌, ℕ, ◌<◌, slice_index_or, IsTrue, IsFalse}
use Rattle.ttp_model.specs.declared.step.Step.{Step}
use Rattle.step_logs.specs.Journal.{Advances, SharpensNothing, slack_of}
use Rattle.step_logs.proofs.journal.Journal.sweep.Given as goal

abbrev pub invariant-loop-step : goal.invariant-loop-step
invariant-loop-step l = record {
  advances : Advances l.initial.self l.self;
  sharper : IsTrue l.sharper → slack_of l.self.facts < slack_of l.initial.self.facts;
  same : IsFalse l.sharper → l.self ≡ l.initial.self;
  idle : IsFalse l.sharper → (k : ℕ) (d : Step) → k < l.step-index → SharpensNothing l.self.facts (slice_index_or l.steps k d);
}
