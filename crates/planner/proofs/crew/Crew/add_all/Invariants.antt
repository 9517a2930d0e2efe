use Rattle.std.proofs.Common.{ℕ, ◌+◌, ◌≤◌, List, [], length}
use Rattle.std.specs.Prelude.{All}
use Rattle.ttp_model.specs.Rules.{IsInstance}
use Rattle.incumbent.specs.Watch.{IsOpening}
use Rattle.search_workers.specs.declared.aims.Aims.{Aims}
use Rattle.search_workers.specs.declared.job.Job.{Job}
use Rattle.search_workers.specs.Searching.{IsFound}
use Rattle.planner.specs.Crew.{AreReportsOf, Gathers, IsJob, IsNoLater, budget_of, hands_of}
use Rattle.planner.proofs.crew.Crew.add_all.Given as goal

abbrev pub invariant-loop-report : goal.invariant-loop-report
invariant-loop-report g l = record {
  opening : IsOpening l.word l.self.watch;
  gathers : (aims : Aims) (count : ℕ) (jobs : List (Job g.row.J.Denot)) → IsInstance g.J.Searched.instance → All (IsJob l.word) jobs → AreReportsOf g.J.Searched.instance aims jobs l.yielded → Gathers g.J.Searched.instance aims l.word count [] l.initial.self → Gathers g.J.Searched.instance aims l.word count (hands_of jobs) l.self;
  no_later : (aims : Aims) (jobs : List (Job g.row.J.Denot)) → IsInstance g.J.Searched.instance → IsFound g.J.Searched.instance l.initial.self.best → AreReportsOf g.J.Searched.instance aims jobs l.yielded
      → IsNoLater g.J.Searched.instance l.initial.self.best l.self.best;
  within : (aims : Aims) (jobs : List (Job g.row.J.Denot)) → AreReportsOf g.J.Searched.instance aims jobs l.yielded → length l.self.pieces.items ≤ length l.initial.self.pieces.items + budget_of jobs;
}
