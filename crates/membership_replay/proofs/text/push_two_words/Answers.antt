use Rattle.std.proofs.Common.{codes}
use Rattle.membership_replay.proofs.Lines.{line_of_two}
use Rattle.membership_replay.proofs.text.push_two_words.Goals as goal

pub returns : goal.returns
returns c =
    line_of_two c.args.text.now.items _ _ _ _ _ _ _ (codes "\n") c.in_ok-extend_from_slice.ensures.items c.in_ok-push_word.ensures c.in_ok-push_word-2.ensures c.in_ok-push.ensures.items
