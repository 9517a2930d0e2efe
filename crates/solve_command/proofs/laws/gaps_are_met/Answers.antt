use Rattle.solve_command.proofs.Untils.{gap_met}
use Rattle.solve_command.proofs.laws.gaps_are_met.Goals as goal

pub returns : goal.returns
returns c = gap_met
