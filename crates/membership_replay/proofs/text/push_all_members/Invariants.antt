use Rattle.std.proofs.Common.{◌≡◌, ◌++◌}
use Rattle.std.specs.List.{flat_map, range_with_len}
use Rattle.membership_replay.specs.Text.{member_line}
use Rattle.membership_replay.proofs.text.push_all_members.Given as goal

abbrev pub invariant-loop-n : goal.invariant-loop-n
invariant-loop-n l = l.text.items ≡ l.initial.text.items ++ flat_map (member_line l.instance l.states) (range_with_len 0 l.n)
