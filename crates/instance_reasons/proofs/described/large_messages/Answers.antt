use Rattle.std.proofs.Common.{◌∙◌, sym}
use Rattle.instance_reasons.specs.Described.{IsLargeMessage, is_large}
use Rattle.instance_reasons.proofs.Listing.{left, taken}
use Rattle.instance_reasons.proofs.described.large_messages.Goals.{then-is_large+in_ok-push, else-is_large}
use Rattle.instance_reasons.proofs.described.large_messages.Goals as goal

-- A message that is too large is taken, and another is left out.
pub loop-m-preserved : goal.loop-m-preserved
loop-m-preserved c =
    let i = c.args.instance.now in
    let told = c.loop-m.told.items in
    elim c.if-is_large.branch [
      | then-is_large+in_ok-push w ↦ rw w.told-is
          (taken (IsLargeMessage i) (is_large i) c.loop-m.m told _ _ (sym c.is_large.ensures ∙ w.if-is_large.true) c.loop-m.invariant
          w.large_message.ensures w.in_ok-push.ensures.items)
      | else-is_large w ↦ rw w.told-is
          (left (IsLargeMessage i) (is_large i) c.loop-m.m told (sym c.is_large.ensures ∙ w.if-is_large.false) c.loop-m.invariant)
    ]
