use Rattle.solve_command.proofs.Solving.{told_of_reader}
use Rattle.solve_command.proofs.solve.solve_run_with.Goals as goal

pub returns-in-None-clause-answer : goal.returns-in-None-clause-answer
returns-in-None-clause-answer g c =
    rw c.in-None.is (told_of_reader _ c.solved_of_reader-found.result c.args.asked.options c.args.asked.enough _ _ _ _ _ _ _ c.solved_of_reader-found.ensures.judged c.tell.ensures)

pub returns-in-Some-clause-answer : goal.returns-in-Some-clause-answer
returns-in-Some-clause-answer g c =
    rw c.in-Some.is (told_of_reader _ c.solved_of_reader-found.result c.args.asked.options c.args.asked.enough _ _ _ _ _ _ _ c.solved_of_reader-found.ensures.judged
    c.tell_certified.ensures)
