use Rattle.search_workers.proofs.Searching.{goes_some, own_tasks}
use Rattle.search_workers.proofs.search.Search.turn_below.Goals as goal

pub bring_open-requires-clause-tasks : goal.bring_open-requires-clause-tasks
bring_open-requires-clause-tasks g c = own_tasks c.args.site.now.instance.now c.args.aims c.args.self.now c.requires.searching

pub turn-requires-clause-searching : goal.turn-requires-clause-searching
turn-requires-clause-searching g c =
    goes_some c.args.site.now.instance.now c.args.aims c.args.self.now c.bring_open.new.self c.requires.searching (c.bring_open.ensures.searching c.args.aims)
