use Rattle.search_workers.proofs.Searching.{goes_some, own_tasks}
use Rattle.search_workers.proofs.search.Search.take_turns.Goals as goal

pub bring-requires-clause-tasks : goal.bring-requires-clause-tasks
bring-requires-clause-tasks g c =
    let i = c.args.site.now.instance.now in
    own_tasks i c.args.aims c.loop-turn.self (goes_some i c.args.aims c.args.self.now c.loop-turn.self c.requires.searching c.loop-turn.invariant.searching)

pub turn-requires-clause-searching : goal.turn-requires-clause-searching
turn-requires-clause-searching g c =
    let i = c.args.site.now.instance.now in
    goes_some i c.args.aims c.loop-turn.self c.bring.new.self
    (goes_some i c.args.aims c.args.self.now c.loop-turn.self c.requires.searching c.loop-turn.invariant.searching)
    (c.bring.ensures.searching c.args.aims)
