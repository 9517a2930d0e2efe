use Rattle.std.proofs.Common.{◌≤◌, length}
use Rattle.search_workers.specs.Searching.{limit_of, SearchGoesOn}
use Rattle.search_workers.proofs.search.Search.take_rounds.Given as goal

abbrev pub invariant-loop-round : goal.invariant-loop-round
invariant-loop-round g l = record {
  searching : SearchGoesOn l.site.instance.now l.fn.aims l.initial.self l.self;
  within : length l.self.pieces.items ≤ l.fn.budget;
  no_later : limit_of l.site.instance.now l.self.best ≤ limit_of l.site.instance.now l.initial.self.best;
}
