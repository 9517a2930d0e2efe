use Rattle.question_commands.proofs.Told.{printable}
use Rattle.question_commands.proofs.why.tell_narrowed.Goals as goal

pub returns-clause-printable : goal.returns-clause-printable
returns-clause-printable g c =
    printable c.args.instance.now c.args.asking.now.options c.args.late c.tell_lines.new.conflict (g.W.Write.contents c.args.out.now)
    (g.W.Write.contents c.tell_lines.new.out) c.nodes-nodes.ensures.instance c.in_ok-tell_lines.ensures.ok
