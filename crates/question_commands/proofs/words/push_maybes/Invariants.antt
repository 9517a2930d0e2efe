use Rattle.std.proofs.Common.{◌≡◌, ◌++◌, take}
use Rattle.std.specs.List.{flat_map}
use Rattle.question_commands.specs.Words.{maybe_line}
use Rattle.question_commands.proofs.words.push_maybes.Given as goal

abbrev pub invariant-loop-need : goal.invariant-loop-need
invariant-loop-need l = l.text.items ≡ l.initial.text.items ++ flat_map (maybe_line l.instance) (take l.need-index l.needs)
