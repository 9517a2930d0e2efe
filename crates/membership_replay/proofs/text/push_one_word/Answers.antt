use Rattle.std.proofs.Common.{codes}
use Rattle.membership_replay.proofs.Lines.{line_of_one}
use Rattle.membership_replay.proofs.text.push_one_word.Goals as goal

pub returns : goal.returns
returns c =
    line_of_one c.args.text.now.items _ _ _ _ _ (codes "\n") c.in_ok-extend_from_slice.ensures.items c.in_ok-push_word.ensures c.in_ok-push.ensures.items
