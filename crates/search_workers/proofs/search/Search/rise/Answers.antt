use Rattle.search_workers.proofs.Searching.{beside_any_order}
use Rattle.search_workers.proofs.search.Search.rise.Goals as goal

pub returns-clause-searching : goal.returns-clause-searching
returns-clause-searching g c = λ roots aside searching.
    let risen = c.take_rounds.new.self in
    rw c.sort_tasks.ensures.pieces (rw c.sort_tasks.ensures.best
    (beside_any_order c.args.site.now.instance.now c.args.aims roots aside risen.pieces.items risen.tasks.items c.sort_tasks.new.self.tasks.items risen.best
    c.sort_tasks.ensures.moved (c.take_rounds.ensures.searching roots aside searching)))
