use Rattle.search_trees.proofs.RootSize.{is_root_task}
use Rattle.search_trees.proofs.task.Task.root.Goals as goal

pub returns-clause-task : goal.returns-clause-task
returns-clause-task c = is_root_task c.args.instance.now _ c.nodes-nodes.ensures.instance c.root.ensures c.new.ensures
