use Rattle.planner.specs.declared.crew.Crew.{Crew}
use Rattle.planner.proofs.Crews.{gathers_more, found_of}
use Rattle.planner.proofs.crew.Crew.add.Goals as goal

pub returns-clause-gathers : goal.returns-clause-gathers
returns-clause-gathers g c = λ aims count begun job w gathers is kept.
    let i = g.J.Searched.instance in
    let old = c.args.self.now in
    let report = c.args.report in
    let new : Crew g.row.J.Denot = record { hands = c.push_hand-pushed.new.hands; watch = c.join.new.watch; pieces = c.take_in-joined.new.all; room = c.keep_roomier.new.room; tasks = c.hold-held.new.tasks; spared = c.saturating_add-self.result; best = c.keep_better.new.best } in
    let best = c.keep_better.ensures i w gathers.found (found_of i kept.best.made report.best kept.best.best) in
    gathers_more i aims c.args.word.now count begun old new job report w gathers is kept c.in_ok-pushed.ensures c.in_ok-joined.ensures.both c.in_ok-held.ensures best c.join.ensures.opening c.join.ensures.out c.join.ensures.seen c.join.ensures.offers

pub returns-clause-no_later : goal.returns-clause-no_later
returns-clause-no_later g c = λ aims job w found kept.
    let i = g.J.Searched.instance in
    let best = c.keep_better.ensures i w found (found_of i kept.best.made c.args.report.best kept.best.best) in
    record { found = best.found; limit = best.first }
