use Rattle.used_decisions.proofs.Counted.{one_up}
use Rattle.used_decisions.proofs.flags.Flags.put_up.Goals as goal

pub returns-then-k-len : goal.returns-then-k-len
returns-then-k-len c = rw (← c.self.view_is) (one_up c.self.inside.count c.args.k c.self.inside.counts.items)
