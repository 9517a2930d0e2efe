use Rattle.std.proofs.Common.{◌≡◌, ◌≤◌, ◌+◌, length}
use Rattle.search_workers.specs.Workbench.{IsWorkbenchOf}
use Rattle.search_workers.specs.Searching.{limit_of, SearchGoesOn}
use Rattle.search_workers.proofs.search.Search.take_turns.Given as goal

abbrev pub invariant-loop-turn : goal.invariant-loop-turn
invariant-loop-turn g l = record {
  searching : SearchGoesOn l.site.instance.now l.fn.aims l.initial.self l.self;
  bench : IsWorkbenchOf l.site.instance.now l.bench;
  rising : IsWorkbenchOf l.site.instance.now l.rising.bench;
  no_later : limit_of l.site.instance.now l.self.best ≤ limit_of l.site.instance.now l.initial.self.best;
  count : length l.self.pieces.items ≡ length l.initial.self.pieces.items + l._turn;
}
