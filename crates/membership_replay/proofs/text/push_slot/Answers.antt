use Rattle.std.proofs.Common.{codes}
use Rattle.membership_replay.proofs.Lines.{line_of_four_then}
use Rattle.membership_replay.specs.Text.{slot_text}
use Rattle.membership_replay.proofs.text.push_slot.Goals as goal

pub returns : goal.returns
unfolding slot_text
returns c =
    let named = rw (c.as_bytes.ensures.value, c.node_name.ensures) at c.in_ok-push_word.ensures in
    let sent = rw c.sent_word.ensures at c.in_ok-push_word-2.ensures in
    let events = rw c.as_slice.ensures at c.in_ok-push_events.ensures in
    line_of_four_then c.args.text.now.items _ _ _ _ _ (codes "slot") _ _ _ _ c.in_ok-extend_from_slice.ensures.items c.in_ok-push_number_word.ensures c.in_ok-push_number_word-2.ensures named sent _ _ (codes "\n") _ c.in_ok-push.ensures.items events
