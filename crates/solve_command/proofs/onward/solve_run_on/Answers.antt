use Rattle.solve_command.proofs.Continued.{told_on}
use Rattle.solve_command.proofs.onward.solve_run_on.Goals as goal

pub returns-in-None-clause-answer : goal.returns-in-None-clause-answer
returns-in-None-clause-answer g c =
    rw c.in-None.is (told_on g.P.Read.remaining c.args.start.now c.args.on _ _ _ _ _ _ _ _ c.solved_on_of_readers-found.result _
    c.solved_on_of_readers-found.ensures.judged c.tell.ensures)

pub returns-in-Some-clause-answer : goal.returns-in-Some-clause-answer
returns-in-Some-clause-answer g c =
    rw c.in-Some.is (told_on g.P.Read.remaining c.args.start.now c.args.on _ _ _ _ _ _ _ _ c.solved_on_of_readers-found.result _
    c.solved_on_of_readers-found.ensures.judged c.tell_certified.ensures)
