use Rattle.std.proofs.Common.{◌∙◌}
use Rattle.used_decisions.proofs.Told.{greatest_told}
use Rattle.used_decisions.proofs.tables.Tables.tell_greatest.Goals as goal

pub returns : goal.returns
returns c = λ i turns are.
    let t = c.args.self.now in record {
      tables = rw c.put_at.ensures (greatest_told i turns t.order.items t.above_least.items t.below_most.items t.before.items t.least.items t.greatest.items t.channels.items c.args.m c.args.round c.args.level are);
      stood_so = λ inside. c.bound.ensures ∙ (rw c.as_slice.ensures.value at c.item_at-stood.ensures ∙ are.until.told c.args.m inside);
    }
