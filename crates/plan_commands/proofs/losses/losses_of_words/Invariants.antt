use Rattle.std.proofs.Common.{◌≡◌, take}
use Rattle.plan_commands.specs.LossWords.{losses_of_words}
use Rattle.plan_commands.proofs.losses.losses_of_words.Given as goal

abbrev pub invariant-loop-word : goal.invariant-loop-word
invariant-loop-word l = l.losses.items ≡ losses_of_words l.medl (take l.word-index l.words)
