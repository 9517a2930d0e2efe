use Rattle.std.proofs.Common.{subst}
use Rattle.branch_tree.specs.declared.worked.Worked.{Worked}
use Rattle.branch_tree.specs.Work.{IsWorked, IsSplit}
use Rattle.many_texts.proofs.searching.children.Goals as goal

pub returns-in-Ok-Split : goal.returns-in-Ok-Split
returns-in-Ok-Split c =
    let i = c.args.instance.now in
    let split : IsSplit i c.in_ok-root.root c.past_horizon.result c.in-Ok-Split._kind c.in-Ok-Split.tasks.items = subst (λ (w : Worked). IsWorked i c.in_ok-root.root c.past_horizon.result w) c.in-Ok-Split.field-0-is c.in-Ok-Split.ensures.worked in
    split.each
