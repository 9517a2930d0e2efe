use Rattle.std.proofs.Common.{◌<◌, length, arith}
use Rattle.ttp_model.specs.Limits.{most_messages}
use Rattle.endless_schedules.proofs.Found.{messages_many, messages_next}
use Rattle.endless_schedules.proofs.messages.all_messages.Goals as goal

pub returns-then-len-gt-MOST_MESSAGES-clause-err : goal.returns-then-len-gt-MOST_MESSAGES-clause-err
returns-then-len-gt-MOST_MESSAGES-clause-err c =
    let inside : c.loop-m.m < length c.args.rates.now.messages = rw c.messages-m-end.ensures.value at c.loop-m-test.true in
    let many : most_messages < length c.push_messages.new.list.items = omega (arith, c.push_messages.new.list.ok.0, c.len.ensures, c.if-len-gt-MOST_MESSAGES.true) in
    messages_many c.args.rates.now c.requires.places.few c.loop-m.m c.loop-m.messages.items c.push_messages.new.list.items inside
    c.loop-m.invariant.0 c.in_ok-push_messages.ensures c.requires.links many

pub loop-m-preserved : goal.loop-m-preserved
loop-m-preserved c = (
  messages_next c.args.rates.now c.loop-m.m c.loop-m.messages.items c.push_messages.new.list.items c.loop-m.invariant.0 c.in_ok-push_messages.ensures,
  omega (arith, c.push_messages.new.list.ok.0, c.len.ensures, c.if-len-gt-MOST_MESSAGES.false),
)
