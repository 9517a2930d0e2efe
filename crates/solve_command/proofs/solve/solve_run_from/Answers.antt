use Rattle.solve_command.proofs.Solving.{told_of_readers}
use Rattle.solve_command.proofs.Unread.{unread_told}
use Rattle.solve_command.proofs.solve.solve_run_from.Goals as goal

pub returns-in-None-clause-answer : goal.returns-in-None-clause-answer
returns-in-None-clause-answer g c =
    rw c.in-None.is (told_of_readers _ _ c.solved_of_readers-found.result c.args.asked.options c.args.asked.enough _ _ _ _ _ _ _ c.solved_of_readers-found.ensures.judged c.tell.ensures)

pub returns-in-None-clause-unread : goal.returns-in-None-clause-unread
returns-in-None-clause-unread g c = unread_told _ _ _ _ _ c.solved_of_readers-found.result _ _ c.solved_of_readers-found.ensures.unread c.tell.ensures

pub returns-in-Some-clause-answer : goal.returns-in-Some-clause-answer
returns-in-Some-clause-answer g c =
    rw c.in-Some.is (told_of_readers _ _ c.solved_of_readers-found.result c.args.asked.options c.args.asked.enough _ _ _ _ _ _ _ c.solved_of_readers-found.ensures.judged
    c.tell_certified.ensures)

pub returns-in-Some-clause-unread : goal.returns-in-Some-clause-unread
returns-in-Some-clause-unread g c =
    unread_told _ _ _ _ _ c.solved_of_readers-found.result _ _ c.solved_of_readers-found.ensures.unread c.tell_certified.ensures
