use Rattle.std.proofs.Common.{◌≡◌, ◌+◌, length}
use Rattle.plan_commands.specs.LossWords.{losses_before}
use Rattle.plan_commands.proofs.losses.word_of_loss.Given as goal

abbrev pub invariant-loop-k : goal.invariant-loop-k
invariant-loop-k l = length (losses_before l.medl l.words l.k) + l.left ≡ l.loss
