use Rattle.std.proofs.Common.{take}
use Rattle.plan_commands.specs.LossWords.{AllSpell, bytes_of}
use Rattle.plan_commands.proofs.losses.losses_in.Given as goal

abbrev pub invariant-loop-k : goal.invariant-loop-k
invariant-loop-k l = AllSpell (take l.k (bytes_of l.words)) l.losses.items
