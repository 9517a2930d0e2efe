use Rattle.std.proofs.Common.{arith, ◌≡◌, ◌≤◌, All, length, ap, sym, subst}
use Rattle.ttp_model.specs.Instance.{Instance}
use Rattle.ttp_model.specs.Rules.{IsInstance}
use Rattle.search_workers.specs.Searching.{limit_of}
use Rattle.search_workers.specs.Task.{IsTask}
use Rattle.planner.specs.Crew.{IsNobody}
use Rattle.planner.proofs.collecting.searched.Goals as goal

pub crewed-requires-clause-instance : goal.crewed-requires-clause-instance
crewed-requires-clause-instance g c κs within = subst IsInstance c.requires.of c.nodes-nodes.ensures.instance

pub crewed-requires-clause-nobody : goal.crewed-requires-clause-nobody
crewed-requires-clause-nobody g c κs within = subst (λ (i : Instance). IsNobody i c.in_ok-word.word c.in_ok-word.crew) c.requires.of c.in_ok-word.ensures.nobody

pub crewed-requires-clause-tasks : goal.crewed-requires-clause-tasks
crewed-requires-clause-tasks g c κs within = subst (λ (i : Instance). All (IsTask i) c.args.tasks.items) c.requires.of c.requires.tasks

pub returns-clause-within : goal.returns-clause-within
returns-clause-within g c =
    let same : length c.in_ok-search.search.pieces.items ≡ length c.crewed.new.crew.pieces.items = λ k. length (c.in_ok-search.ensures.same k).items in
    omega (arith, same, c.in_ok-crewed.ensures.within)

pub returns-clause-no_later : goal.returns-clause-no_later
returns-clause-no_later g c =
    let i = c.args.site.now.instance.now in
    let began = ap (limit_of i) c.in_ok-word.ensures.best in
    let ended = ap (limit_of i) c.in_ok-search.ensures.best in
    let crewed = subst (λ (x : Instance). limit_of x c.crewed.new.crew.best ≤ limit_of x c.in_ok-word.crew.best) (sym c.requires.of) c.in_ok-crewed.ensures.no_later in
    omega (arith, began, ended, crewed)
