use Rattle.solve_command.proofs.ToldBounds.{no_lower}
use Rattle.solve_command.proofs.onward.searched_on.Goals as goal

pub returns-clause-no_lower : goal.returns-clause-no_lower
returns-clause-no_lower g c =
    no_lower c.args.instance.now c.args.on.asked.options c.args.on.asked.enough.gap c.args.start c.args.cert.now c.args.on.part c.solve_on-searched.result
    c.solve_on-searched.ensures.answer c.solve_on-searched.ensures.no_lower
