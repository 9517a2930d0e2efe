use Rattle.std.proofs.Common.{◌-◌, ◌≡◌, ◌≤◌, ◌+◌, ◌*◌, vec_len}
use Rattle.branch_tree.specs.Workbench.{IsWorkbenchOf}
use Rattle.incumbent.specs.Watch.{IsOther}
use Rattle.search_workers.specs.declared.report.Rest.TheVariants.{Nothing}
use Rattle.used_decisions.specs.declared.manner.Manner.TheVariants.{Plain}
use Rattle.search_workers.specs.Report.{AreSpared}
use Rattle.search_workers.specs.Run.{GoesOn}
use Rattle.search_workers.proofs.run.Run.turns.Given as goal

abbrev pub decreases-loop-course : goal.decreases-loop-course
decreases-loop-course g l = (l.fn.budget - vec_len l.self.pieces) * 1001002000 + (1000000 - l.spared) * 1001 + (1000 - l.idle)

abbrev pub invariant-loop-course : goal.invariant-loop-course
invariant-loop-course g l = record {
  goes_on : GoesOn l.site.instance.now l.fn.course.aims l.initial.self l.self Nothing;
  watch : IsOther l.word l.self.watch;
  bench : IsWorkbenchOf l.site.instance.now l.bench;
  spared : AreSpared l.site.instance.now l.self.pieces.items l.self.spared.items l.needs;
  within : vec_len l.self.pieces ≤ l.fn.budget;
  plain : l.fn.course.manner ≡ Plain → l.self.spared.items ≡ l.initial.self.spared.items;
}
