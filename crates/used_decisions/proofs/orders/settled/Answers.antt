use Rattle.std.proofs.Common.{ℕ, subst}
use Rattle.ttp_model.specs.Network.{processes_on}
use Rattle.used_decisions.specs.Steps.{TellsEach, TellsRival}
use Rattle.used_decisions.proofs.OrdersRead.{rivals_stay, settled_read}
use Rattle.used_decisions.proofs.Tells.{more_twice, read_more}
use Rattle.used_decisions.proofs.orders.settled.Goals as goal

pub returns : goal.returns
returns c =
    let path = c.args.path.now in
    let given = c.args.given.now in
    let one = c.rivals.new.uses in
    let two = c.arrivals.new.uses in record {
      more = more_twice c.args.uses.now one two c.rivals.ensures.more c.arrivals.ensures.more;
      told = λ read. settled_read path given two c.args.p
          (λ there.
          let node = rw c.instance.ensures at c.node-n.ensures in
          subst (λ (n : ℕ). TellsEach (λ uses x. TellsRival path given uses c.args.p x) (processes_on path.instance n) two) (node there)
          (rivals_stay path given c.args.p (processes_on path.instance c.node-n.result) one two c.arrivals.ensures.more (c.rivals.ensures.told read)))
          (c.arrivals.ensures.told (read_more path c.args.uses.now one c.rivals.ensures.more read));
    }
