use Rattle.std.proofs.Common.{codes}
use Rattle.line_text.proofs.Pieces.{four_pieces}
use Rattle.membership_replay.specs.Text.{member_line}
use Rattle.membership_replay.proofs.text.push_members.Goals as goal

pub returns : goal.returns
unfolding member_line
returns c =
    let named = rw (c.as_bytes.ensures.value, c.node_name.ensures) at c.in_ok-push_word.ensures in
    four_pieces c.args.text.now.items _ _ _ (codes "member") _ _ c.in_ok-extend_from_slice.ensures.items named c.in_ok-push_member_words.ensures _ (codes "\n") c.in_ok-push.ensures.items
