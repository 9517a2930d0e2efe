use Rattle.std.proofs.Common.{◌∙◌}
use Rattle.used_decisions.proofs.Told.{capacity_told}
use Rattle.used_decisions.proofs.tables.Tables.tell_capacity.Goals as goal

pub returns : goal.returns
returns c = λ turns are.
    let i = c.args.instance.now in
    let t = c.args.self.now in record {
      tables = capacity_told i turns t.order.items t.above_least.items t.below_most.items t.before.items t.least.items t.greatest.items t.channels.items c.args.n c.args.k c.args.level c.put_where.new.items.items c.put_where-2.new.items.items c.put_where.ensures (rw c.options.ensures at c.put_where-2.ensures) are;
      stood_so = λ inside. (
        rw c.as_slice.ensures.value at c.item_at.ensures ∙ are.fixed_above.told c.args.n inside,
        rw c.as_slice-2.ensures.value at c.item_at-2.ensures ∙ are.fixed_below.told c.args.n inside,
      );
    }
