use Rattle.std.proofs.Common.{[], sym, subst}
use Rattle.search_workers.specs.Searching.{IsFound, IsSearchingOf}
use Rattle.search_workers.proofs.together.Round.alone.Goals as goal
use Rattle.search_workers.proofs.together.Round.alone.Goals.{After-begun-search}

begins : (g : _) (c : After-begun-search g) → IsSearchingOf c.args.self.now.site.now.instance.now c.args.self.now.aims c.args.tasks.items c.begun-search.result.pieces.items c.begun-search.result.tasks.items c.begun-search.result.best
begins g c =
    let i = c.args.self.now.site.now.instance.now in
    c.begun-search.ensures.begun i c.args.self.now.aims c.requires.tasks (subst (IsFound i) (sym c.in-Ok.ensures) c.requires.found)

pub turns_below-requires-clause-searching : goal.turns_below-requires-clause-searching
turns_below-requires-clause-searching g c = (c.args.tasks.items, [], begins g (goal.at.turns_below-requires-clause-searching g c).After-begun-search)

pub returns-clause-searching : goal.returns-clause-searching
returns-clause-searching g c = c.turns_below.ensures.searching c.args.tasks.items [] (begins g (goal.at.returns-clause-searching g c).After-begun-search)
