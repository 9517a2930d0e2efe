use Rattle.std.proofs.Common.{◌<◌, rules, length, refl}
use Rattle.steal_pool.proofs.OneHand.{same_deques, some_after, none_after}
use Rattle.steal_pool.proofs.hand.Hand.steal_at.Goals as goal

pub returns : goal.returns
returns g c =
    let own = c.args.self.now.own.end.pass.me.view.client.taken in
    let doors = c.args.self.now.doors.items in
    let place = c.args.place in
    let d = c.index_mut-door.result.now in
    let e = c.steal.new.self in
    let small : place < length doors = search rules in
    let is = c.index_mut-door.ensures.value in
    record {
      same = record { number = refl; own = refl; deques = same_deques doors place d e small is c.steal.ensures.same; out = refl };
      pushed = refl;
      some = some_after own doors place d e small is c.steal.result c.steal.ensures.taken;
      task = c.steal.ensures.task;
      none = none_after own doors place d e small is c.steal.result c.steal.ensures.taken;
    }
