use Rattle.std.proofs.lemmas.List.Elements.{All-push}
use Rattle.search_workers.specs.Report.{IsSpared}
use Rattle.search_workers.proofs.run.Run.spare.Goals as goal

pub returns-clause-spared : goal.returns-clause-spared
returns-clause-spared g c = λ made all one.
    rw (c.push_reserved.ensures.items, c.reserve.ensures.items) (All-push (IsSpared g.J.Searched.instance made) c.args.self.now.spared.items c.args.task all one)
