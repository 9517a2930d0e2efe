use Rattle.search_workers.specs.Workbench.{IsWorkbenchOf}
use Rattle.search_workers.proofs.rising.Rising.newest_open.Given as goal

abbrev pub invariant-loop-at : goal.invariant-loop-at
invariant-loop-at g l = IsWorkbenchOf l.site.instance.now l.self.bench
