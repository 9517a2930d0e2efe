use Rattle.std.proofs.Common.{◌≡◌, ◌++◌}
use Rattle.std.specs.List.{flat_map, range_with_len}
use Rattle.membership_replay.specs.Text.{member_word}
use Rattle.membership_replay.proofs.text.push_member_words.Given as goal

abbrev pub invariant-loop-n : goal.invariant-loop-n
invariant-loop-n l = l.text.items ≡ l.initial.text.items ++ flat_map (member_word l.instance l.vector) (range_with_len 0 l.n)
