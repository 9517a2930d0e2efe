use Rattle.used_decisions.proofs.Tells.{more_none}
use Rattle.used_decisions.proofs.orders.unled.Goals as goal

pub returns-then-leads : goal.returns-then-leads
returns-then-leads c = record {
  more = more_none c.args.uses.now;
  told = λ read row column never. absurd (never (rw c.instance.ensures at (c.leads.ensures.0 c.if-leads.true)));
}

pub returns : goal.returns
returns c = record { more = c.order.ensures.more; told = λ read row column never. c.order.ensures.told read row column }
