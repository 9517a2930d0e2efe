use Rattle.used_decisions.proofs.Tells.{more_none}
use Rattle.used_decisions.proofs.orders.unlinked.Goals as goal

pub returns-then-has_link : goal.returns-then-has_link
returns-then-has_link c = record {
  more = more_none c.args.uses.now;
  told = λ read row column never. absurd (never (rw c.instance.ensures at (c.has_link.ensures.0 c.if-has_link.true)));
}

pub returns : goal.returns
returns c = record { more = c.order.ensures.more; told = λ read row column never. c.order.ensures.told read row column }
