use Rattle.std.proofs.Common.{arith, length, length-append, ap, ◌∙◌}
use Rattle.search_workers.proofs.Searching.{own_tasks}
use Rattle.planner.proofs.Pooled.{worked_before}
use Rattle.planner.proofs.collecting.pooled.Goals as goal

pub searched-requires-clause-tasks : goal.searched-requires-clause-tasks
searched-requires-clause-tasks g c κs within = own_tasks c.args.site.now.instance.now c.args.course.aims c.args.search c.requires.searching

pub searched-requires-clause-found : goal.searched-requires-clause-found
searched-requires-clause-found g c κs within = c.requires.searching.2.found

pub returns-clause-searching : goal.returns-clause-searching
returns-clause-searching g c = λ roots aside s.
    let made = c.in_ok-made in
    let is = c.in_ok-search.ensures in
    rw (is.pieces, is.tasks, is.best)
    (worked_before c.args.site.now.instance.now c.args.course.aims roots aside c.args.search.tasks.items c.args.search.pieces.items made.made.pieces.items
    made.made.tasks.items c.args.search.best made.made.best s made.ensures.searching made.ensures.no_later)

pub returns-clause-within : goal.returns-clause-within
returns-clause-within g c =
    let made = c.in_ok-made in
    let many = ap length c.in_ok-search.ensures.pieces ∙ length-append made.made.pieces.items c.args.search.pieces.items in
    omega (arith, many, made.ensures.within)

pub returns-clause-no_later : goal.returns-clause-no_later
returns-clause-no_later g c = rw c.in_ok-search.ensures.best c.in_ok-made.ensures.no_later
