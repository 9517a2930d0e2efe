use Rattle.std.proofs.Common.{All, sym, subst, rules}
use Rattle.std.proofs.lemmas.List.Elements.{All-take}
use Rattle.search_workers.specs.Task.{IsTask}
use Rattle.search_workers.proofs.together.+threads.Goals as goal

pub Round::apart-returns-clause-searching : goal.Round::apart-returns-clause-searching
Round::apart-returns-clause-searching g t c =
    c.both.ensures.searching c.args.self.now.site.now.instance.now c.args.self.now.aims c.args.front.items c.args.back.items c.nodes-nodes.ensures.instance (search rules) (search rules)

pub Round::share-apart-requires-clause-front : goal.Round::share-apart-requires-clause-front
Round::share-apart-requires-clause-front g t c κs within =
    let i = c.args.self.now.site.now.instance.now in
    subst (All (IsTask i)) (sym c.in-Ok.ensures.items) (All-take (IsTask i) c.halves-at.result.0 c.args.tasks.items c.requires.tasks)
