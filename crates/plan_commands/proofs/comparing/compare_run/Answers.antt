use Rattle.plan_commands.proofs.Compared.{old_told}
use Rattle.plan_commands.proofs.comparing.compare_run.Goals as goal

pub returns-in-Ok-clause-answer : goal.returns-in-Ok-clause-answer
returns-in-Ok-clause-answer g c =
    let instance = g.J.Read.remaining c.args.new_instance.now in
    let plan = g.Q.Read.remaining c.args.new_plan.now in
    let out = g.W.Write.contents c.args.out.now in
    let written = g.W.Write.contents c.compare_with-end.new.out in
    let answers = c.compare_with-end.ensures.answer in
    old_told _ _ instance plan c.in-Ok.old out written c.compare_with-end.result c.in-Ok.ensures.judged answers
