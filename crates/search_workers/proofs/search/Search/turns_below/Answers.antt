use Rattle.search_workers.proofs.search.Search.turns_below.Goals as goal

pub turn_below-requires-clause-searching : goal.turn_below-requires-clause-searching
turn_below-requires-clause-searching g c = (c.requires.searching.0, c.requires.searching.1, c.loop-turn.invariant.searching c.requires.searching.0 c.requires.searching.1 c.requires.searching.2)

pub returns-then-not-turn_below-clause-searching : goal.returns-then-not-turn_below-clause-searching
returns-then-not-turn_below-clause-searching g c = λ roots aside searching. c.turn_below.ensures.searching roots aside (c.loop-turn.invariant.searching roots aside searching)
