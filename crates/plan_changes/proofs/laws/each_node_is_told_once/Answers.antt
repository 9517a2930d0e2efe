use Rattle.ttp_model.specs.declared.error.Part.TheVariants.{Nodes}
use Rattle.ttp_model.specs.Names.{names_in}
use Rattle.plan_changes.proofs.Once.{either-from, either-has, either-once}
use Rattle.plan_changes.proofs.laws.each_node_is_told_once.Goals as goal

pub returns-clause-all : goal.returns-clause-all
returns-clause-all c = λ old new name.
    let before = names_in old.instance Nodes in
    let after = names_in new.instance Nodes in
    (either-from before after name, either-has before after name)

pub returns-clause-once : goal.returns-clause-once
returns-clause-once c = λ old new first second. either-once old.instance new.instance first second
