use Rattle.std.proofs.Common.{arith}
use Rattle.std.proofs.lemmas.Grind.{common_steps}
use Rattle.question_commands.proofs.Meaning.{range_more}
use Rattle.question_commands.proofs.meant.all_of.Goals as goal

pub loop-p-preserved : goal.loop-p-preserved
loop-p-preserved c = grind (arith, common_steps, range_more c.loop-p.p)
