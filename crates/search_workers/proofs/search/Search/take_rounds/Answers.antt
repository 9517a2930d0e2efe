use Rattle.std.proofs.Common.{arith}
use Rattle.search_workers.specs.Searching.{SearchGoesOn}
use Rattle.search_workers.proofs.Searching.{goes_some, goes_then}
use Rattle.search_workers.proofs.search.Search.take_rounds.Goals as goal
use Rattle.search_workers.proofs.search.Search.take_rounds.Goals.{After-round}

goes : (g : _) (c : After-round g) → SearchGoesOn c.args.site.now.instance.now c.args.aims c.args.self.now c.round.new.self
goes g c =
    goes_then c.args.site.now.instance.now c.args.aims c.args.self.now c.loop-round.self c.round.new.self c.loop-round.invariant.searching
    c.round.ensures.searching

pub round-requires-clause-searching : goal.round-requires-clause-searching
round-requires-clause-searching g c κs within =
    goes_some c.args.site.now.instance.now c.args.aims c.args.self.now c.loop-round.self c.requires.searching c.loop-round.invariant.searching

pub returns-then-not-round-clause-searching : goal.returns-then-not-round-clause-searching
returns-then-not-round-clause-searching g c = goes g (goal.at.returns-then-not-round-clause-searching g c).After-round

pub loop-round-preserved : goal.loop-round-preserved
loop-round-preserved g c = record {
  searching = goes g (goal.at.loop-round-preserved g c).After-round;
  within = omega (arith, c.round.ensures.within);
  no_later = omega (arith, c.round.ensures.no_later, c.loop-round.invariant.no_later);
}
