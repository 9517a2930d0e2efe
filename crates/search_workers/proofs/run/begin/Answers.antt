use Rattle.search_workers.proofs.Spared.{at_first}
use Rattle.search_workers.proofs.run.begin.Goals as goal

pub returns-in-Err-clause-at : goal.returns-in-Err-clause-at
returns-in-Err-clause-at c = at_first c.args.instance.now c.args.task.now.decisions c.new.result.way c.new.ensures
