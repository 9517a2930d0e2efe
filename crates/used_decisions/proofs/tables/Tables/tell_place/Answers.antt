use Rattle.used_decisions.proofs.Told.{place_told}
use Rattle.used_decisions.proofs.tables.Tables.tell_place.Goals as goal

pub returns-clause-ok : goal.returns-clause-ok
returns-clause-ok c = λ i turns are.
    let t = c.args.self.now in record {
      tables = rw c.in_ok-push.ensures.items (place_told i turns t.order.items t.above_least.items t.below_most.items t.before.items t.least.items t.greatest.items t.channels.items c.args.node c.args.level are);
      stood_so = tt;
    }
