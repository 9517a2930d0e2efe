use Rattle.std.proofs.Common.{None}
use Rattle.solve_command.proofs.ToldBounds.{no_lower}
use Rattle.evidence.proofs.commands.searches.bound_is_no_lower_than_before.Goals as goal

pub returns : goal.returns
returns g c =
    no_lower c.args.instance.now c.args.options 0 None c.args.cert.now c.args.part c.solve_on.result c.solve_on.ensures.answer c.solve_on.ensures.no_lower
