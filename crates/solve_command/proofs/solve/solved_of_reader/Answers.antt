use Rattle.std.proofs.Common.{None}
use Rattle.solve_command.proofs.Solving.{solved_of_bytes}
use Rattle.solve_command.proofs.solve.solved_of_reader.Goals as goal

pub returns-clause-judged : goal.returns-clause-judged
returns-clause-judged g c =
    solved_of_bytes _ _ None c.args.asked.options c.args.asked.enough _ _ c.in_ok-instance.ensures.judged c.solved_instance.ensures.found
