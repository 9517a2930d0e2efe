use Rattle.evidence.proofs.Transfers.{counts}
use Rattle.evidence.proofs.commands.propagations.bound_counts_a_transfer.Goals as goal

pub returns : goal.returns
returns c = counts c.args.instance.now c.path_bound.result c.path_bound.ensures
