use Rattle.solve_command.proofs.Solving.{solved_of_texts}
use Rattle.solve_command.proofs.Unread.{unread_searched}
use Rattle.solve_command.proofs.solve.solved_of_readers.Goals as goal

pub returns-clause-judged : goal.returns-clause-judged
returns-clause-judged g c =
    solved_of_texts _ _ _ c.args.asked.options c.args.asked.enough _ _ c.in_ok-instance.ensures.judged c.solved_instance.ensures.found

pub returns-clause-unread : goal.returns-clause-unread
returns-clause-unread g c = unread_searched _ _ _ c.args.asked.options c.args.asked.enough _ _ c.solved_instance.ensures.found
