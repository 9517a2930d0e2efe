use Rattle.search_workers.specs.Workbench.{IsWorkbenchOf}
use Rattle.search_workers.proofs.rising.Rising.open_task.Given as goal

abbrev pub invariant-loop-step : goal.invariant-loop-step
invariant-loop-step g l = IsWorkbenchOf l.site.instance.now l.self.bench
