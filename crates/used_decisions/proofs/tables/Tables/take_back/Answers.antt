use Rattle.std.proofs.Common.{◌≡◌, ◌-◌, length, arith}
use Rattle.std.specs.Vec.{vec_len}
use Rattle.tt_choice.specs.declared.decision.Decision.TheVariants.{Place, Cap, Before, AtMost, AtLeast, Channel}
use Rattle.used_decisions.proofs.Told.{told_is, place_back, capacity_back, order_back, greatest_back, least_back, channel_back}
use Rattle.used_decisions.proofs.tables.Tables.take_back.Goals as goal

pub returns-in-AtMost : goal.returns-in-AtMost
returns-in-AtMost c = λ turns tells.
    let i = c.args.instance.now in
    let t = c.args.self.now in
    let told = told_is i turns c.args.turn (AtMost c.in-AtMost.m c.in-AtMost.field-1) t c.args.stood c.in-AtMost.is tells in
    rw c.put_at-in-AtMost.ensures (greatest_back i turns t.order.items t.above_least.items t.below_most.items t.before.items t.least.items t.greatest.items t.channels.items c.in-AtMost.m c.in-AtMost.field-1 c.args.turn.level c.args.stood.cut told.stood_so told.tables)

pub returns-in-AtLeast : goal.returns-in-AtLeast
returns-in-AtLeast c = λ turns tells.
    let i = c.args.instance.now in
    let t = c.args.self.now in
    let told = told_is i turns c.args.turn (AtLeast c.in-AtLeast.m c.in-AtLeast.field-1) t c.args.stood c.in-AtLeast.is tells in
    rw c.put_at-in-AtLeast.ensures (least_back i turns t.order.items t.above_least.items t.below_most.items t.before.items t.least.items t.greatest.items t.channels.items c.in-AtLeast.m c.in-AtLeast.field-1 c.args.turn.level c.args.stood.cut told.stood_so told.tables)

pub returns-in-Channel : goal.returns-in-Channel
returns-in-Channel c = λ turns tells.
    let i = c.args.instance.now in
    let t = c.args.self.now in
    let told = told_is i turns c.args.turn (Channel c.in-Channel.m c.in-Channel.field-1) t c.args.stood c.in-Channel.is tells in
    rw c.put_at-in-Channel.ensures (channel_back i turns t.order.items t.above_least.items t.below_most.items t.before.items t.least.items t.greatest.items t.channels.items c.in-Channel.m c.in-Channel.field-1 c.args.turn.level c.args.stood.channel told.stood_so told.tables)

pub returns-in-Before : goal.returns-in-Before
returns-in-Before c = λ turns tells.
    let i = c.args.instance.now in
    let t = c.args.self.now in
    let told = told_is i turns c.args.turn (Before c.in-Before.p c.in-Before.q) t c.args.stood c.in-Before.is tells in
    rw (c.put_at-in-Before.ensures, c.order_place.ensures) (order_back i turns t.order.items t.above_least.items t.below_most.items t.before.items t.least.items t.greatest.items t.channels.items c.in-Before.p c.in-Before.q c.args.turn.level c.args.stood.level told.stood_so told.tables)

pub returns-in-Cap : goal.returns-in-Cap
returns-in-Cap c = λ turns tells.
    let i = c.args.instance.now in
    let t = c.args.self.now in
    let told = told_is i turns c.args.turn (Cap c.in-Cap.n c.in-Cap.field-1) t c.args.stood c.in-Cap.is tells in
    rw (c.put_at.ensures, c.put_at-in-Cap.ensures) (capacity_back i turns t.order.items t.above_least.items t.below_most.items t.before.items t.least.items t.greatest.items t.channels.items c.in-Cap.n c.in-Cap.field-1 c.args.turn.level c.args.stood.level c.args.stood.below told.stood_so told.tables)

pub returns-in-Place : goal.returns-in-Place
returns-in-Place c = λ turns tells.
    let i = c.args.instance.now in
    let t = c.args.self.now in
    let told = told_is i turns c.args.turn (Place c.in-Place.field-0) t c.args.stood c.in-Place.is tells in
    let count : vec_len t.order - 1 ≡ length t.order.items - 1 = omega arith in
    rw (c.pop-last.ensures.rest, count) (place_back i turns t.order.items t.above_least.items t.below_most.items t.before.items t.least.items t.greatest.items t.channels.items c.in-Place.field-0 c.args.turn.level told.tables)
