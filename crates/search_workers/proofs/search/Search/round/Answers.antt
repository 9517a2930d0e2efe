use Rattle.std.proofs.Common.{◌++◌}
use Rattle.search_workers.proofs.Searching.{beside_any_order}
use Rattle.search_workers.proofs.search.Search.round.Goals as goal

pub work_deal-requires-clause-searching : goal.work_deal-requires-clause-searching
work_deal-requires-clause-searching g c κs within =
    let old = c.args.self.now in
    let new = c.deal.new.self in
    let roots = c.requires.searching.0 in
    let aside = c.requires.searching.1 in (
      roots,
      aside,
      rw c.deal.ensures.pieces (rw c.deal.ensures.best
          (beside_any_order c.args.site.now.instance.now c.args.aims roots aside old.pieces.items old.tasks.items (new.tasks.items ++ c.in-Ok.deal.tasks.items) old.best
          c.in-Ok.ensures.dealt c.requires.searching.2)),
    )

pub returns-in-Ok-clause-searching : goal.returns-in-Ok-clause-searching
returns-in-Ok-clause-searching g c = λ roots aside searching.
    let old = c.args.self.now in
    let new = c.deal.new.self in
    c.work_deal.ensures.searching roots aside (rw c.deal.ensures.pieces (rw c.deal.ensures.best
    (beside_any_order c.args.site.now.instance.now c.args.aims roots aside old.pieces.items old.tasks.items (new.tasks.items ++ c.in-Ok.deal.tasks.items) old.best
    c.in-Ok.ensures.dealt searching)))

pub returns-in-Err-clause-searching : goal.returns-in-Err-clause-searching
returns-in-Err-clause-searching g c = λ roots aside searching.
    let old = c.args.self.now in
    let new = c.deal.new.self in
    rw c.deal.ensures.pieces (rw c.deal.ensures.best
    (beside_any_order c.args.site.now.instance.now c.args.aims roots aside old.pieces.items old.tasks.items new.tasks.items old.best c.in-Err.ensures.stays searching))
