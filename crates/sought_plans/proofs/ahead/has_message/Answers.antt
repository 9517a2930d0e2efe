use Rattle.std.proofs.Common.{length, refl, ap, below_more, arith}
use Rattle.std.proofs.lemmas.Bool.{both_ways, false≢true}
use Rattle.sought_plans.proofs.ahead.has_message.Goals as goal
use Rattle.sought_plans.proofs.ahead.has_message.Goals.{else-message-p-via-then-message-p+else-contains, else-message-p-via-else-message-p}

pub loop-m-preserved : goal.loop-m-preserved
loop-m-preserved c =
    elim c.else-message-p.branch [
      | else-message-p-via-then-message-p+else-contains w ↦
          below_more _ _ c.loop-m.invariant (λ sender contains. both_ways _ w.if-contains.false (w.contains.ensures.1 (rw c.message_at-message.ensures.value contains)))
      | else-message-p-via-else-message-p w ↦
          below_more _ _ c.loop-m.invariant (λ sender contains. w.if-message-p.false (rw c.message_at-message.ensures.value sender))
    ]

pub returns-then-contains : goal.returns-then-contains
returns-then-contains c =
    let message = c.message_at-message.ensures.value in (
      λ is. record {
        message = c.loop-m.m;
        is_there = omega (arith, c.loop-m-test.true, ap length c.messages-m-end.ensures.value);
        sender = rw message at c.if-message-p.true;
        receiver = rw message at (c.contains.ensures.0 c.if-contains.true);
      },
      λ has. refl,
    )

pub returns : goal.returns
returns c = (
  λ is. absurd (false≢true is),
  λ has. absurd (c.loop-m.invariant has.message (omega (arith, has.is_there, ap length c.messages-m-end.ensures.value, c.loop-m-test.false)) has.sender has.receiver),
)
