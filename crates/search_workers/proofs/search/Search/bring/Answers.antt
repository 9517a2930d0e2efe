use Rattle.search_workers.proofs.Searching.{beside_any_order}
use Rattle.search_workers.proofs.search.Search.bring.Goals as goal

pub returns-clause-searching : goal.returns-clause-searching
returns-clause-searching g c = λ aims roots aside searching.
    let old = c.args.self.now in
    rw c.bring_last.ensures.pieces (rw c.bring_last.ensures.best
    (beside_any_order c.args.site.now.instance.now aims roots aside old.pieces.items old.tasks.items c.bring_last.new.self.tasks.items old.best c.bring_last.ensures.moved searching))
