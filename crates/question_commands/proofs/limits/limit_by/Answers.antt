use Rattle.question_commands.proofs.LimitAnswers.{printable}
use Rattle.question_commands.proofs.limits.limit_by.Goals as goal

pub texts_of-requires-clause-printable : goal.texts_of-requires-clause-printable
texts_of-requires-clause-printable g c =
    printable c.args.instance.now c.args.processes.now c.args.asking.now.options c.in-Ok.limit c.in-Ok.ensures c.nodes-nodes.ensures.instance c.requires
