use Rattle.std.proofs.Common.{◌≤◌, ◌+◌, vec_len}
use Rattle.search_workers.specs.Workbench.{IsWorkbenchOf}
use Rattle.search_workers.specs.Searching.{SearchGoesOn}
use Rattle.search_workers.proofs.search.Search.turns_below.Given as goal

abbrev pub invariant-loop-turn : goal.invariant-loop-turn
invariant-loop-turn g l = record {
  searching : SearchGoesOn l.site.instance.now l.fn.aims l.initial.self l.self;
  bench : IsWorkbenchOf l.site.instance.now l.bench;
  rising : IsWorkbenchOf l.site.instance.now l.rising.bench;
  room : vec_len l.self.tasks ≤ l.fn.stint.room;
  count : vec_len l.self.pieces ≤ vec_len l.initial.self.pieces + l._turn;
}
