use Rattle.solve_command.proofs.Untils.{until_met}
use Rattle.solve_command.proofs.laws.untils_are_met.Goals as goal

pub returns : goal.returns
returns c = until_met
