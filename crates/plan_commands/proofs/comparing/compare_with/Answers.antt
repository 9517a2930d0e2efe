use Rattle.plan_commands.proofs.Compared.{new_refused, new_told}
use Rattle.plan_commands.proofs.comparing.compare_with.Goals as goal

pub returns-in-Ok-clause-answer : goal.returns-in-Ok-clause-answer
returns-in-Ok-clause-answer g c = new_told _ _ c.args.old.now c.in-Ok.new _ _ _ c.in-Ok.ensures.judged c.tell_changes-end.ensures

pub returns-in-Err-clause-answer : goal.returns-in-Err-clause-answer
returns-in-Err-clause-answer g c = new_refused _ _ c.args.old.now _ c.in-Err.fault c.in-Err.ensures.judged
