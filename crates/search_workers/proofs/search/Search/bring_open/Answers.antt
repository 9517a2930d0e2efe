use Rattle.std.proofs.Common.{All, sym, subst, arith}
use Rattle.std.proofs.lemmas.List.Sorted.{length_permutation}
use Rattle.search_workers.specs.Task.{IsTask}
use Rattle.search_workers.proofs.Searching.{beside_any_order}
use Rattle.search_workers.proofs.search.Search.bring_open.Goals as goal

pub pick_open-requires-clause-tasks : goal.pick_open-requires-clause-tasks
pick_open-requires-clause-tasks g c = subst (All (IsTask c.args.site.now.instance.now)) (sym c.as_slice.ensures.value) c.requires.tasks

pub returns-clause-searching : goal.returns-clause-searching
returns-clause-searching g c = λ aims roots aside searching.
    let old = c.args.self.now in
    rw c.bring_last.ensures.pieces (rw c.bring_last.ensures.best
    (beside_any_order c.args.site.now.instance.now aims roots aside old.pieces.items old.tasks.items c.bring_last.new.self.tasks.items old.best c.bring_last.ensures.moved searching))

pub returns-clause-tasks : goal.returns-clause-tasks
returns-clause-tasks g c =
    omega (arith, length_permutation _ _ c.bring_last.ensures.moved, c.args.self.now.tasks.ok.0, c.bring_last.new.self.tasks.ok.0)
