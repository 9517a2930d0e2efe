use Rattle.std.proofs.Common.{◌-◌, length, slice_index}
use Rattle.used_decisions.proofs.OrdersRead.{pair_more}
use Rattle.used_decisions.proofs.Tells.{more_twice, read_more}
use Rattle.used_decisions.proofs.orders.ring.Goals as goal

pub returns : goal.returns
returns c =
    let path = c.args.path.now in
    let ring = c.args.ring.now in
    let one = c.ahead.new.uses in
    let two = c.neighbours.new.uses in record {
      more = more_twice c.args.uses.now one two c.ahead.ensures.more c.neighbours.ensures.more;
      told = λ read. record {
        next = c.neighbours.ensures.told (read_more path c.args.uses.now one c.ahead.ensures.more read);
        around =
            pair_more path c.args.given.now one two (slice_index ring (length ring - 1)) (slice_index ring 0) c.neighbours.ensures.more
            (c.ahead.ensures.told read);
      };
    }
