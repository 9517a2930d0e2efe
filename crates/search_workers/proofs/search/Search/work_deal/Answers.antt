use Rattle.std.proofs.Common.{◌++◌, List, sym, subst, append_assoc}
use Rattle.search_workers.specs.Task.{Task, IsTask}
use Rattle.search_workers.specs.Searching.{IsSearchingOf}
use Rattle.search_workers.proofs.Searching.{back_all}
use Rattle.search_workers.proofs.search.Search.work_deal.Goals as goal

pub share-search-requires-clause-tasks : goal.share-search-requires-clause-tasks
share-search-requires-clause-tasks g c κs within =
    let P = IsTask c.args.site.now.instance.now in
    let old = c.args.self.now.tasks.items in
    back_all P old c.args.deal.tasks.items (back_all P c.requires.searching.1 (old ++ c.args.deal.tasks.items) c.requires.searching.2.open_tasks)

pub returns-clause-searching : goal.returns-clause-searching
returns-clause-searching g c = λ roots aside searching.
    let i = c.args.site.now.instance.now in
    let old = c.args.self.now in
    let dealt = c.args.deal.tasks.items in
    c.take_in-2.ensures.searching i c.args.aims roots aside dealt c.nodes-nodes.ensures.instance
    (subst (λ (l : List Task). IsSearchingOf i c.args.aims roots old.pieces.items l old.best) (sym (append_assoc aside old.tasks.items dealt)) searching)
    c.share-search.ensures.searching
