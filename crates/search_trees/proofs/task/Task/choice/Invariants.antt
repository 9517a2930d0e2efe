use Rattle.std.proofs.Common.{◌≡◌, take}
use Rattle.tt_choice.specs.Choice.{IsChoice}
use Rattle.tt_choice.specs.Decisions.{chosen}
use Rattle.search_trees.proofs.task.Task.choice.Given as goal

abbrev pub invariant-loop-decision : goal.invariant-loop-decision
invariant-loop-decision l = record {
  made : l.choice ≡ chosen l.instance (take l.decision-index l.self.decisions);
  is : IsChoice l.instance l.choice;
}
