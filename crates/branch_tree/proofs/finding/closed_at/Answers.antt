use Rattle.std.proofs.Common.{subst}
use Rattle.search_trees.specs.declared.trial.Trial.{Trial}
use Rattle.search_trees.specs.Trials.{IsTrial, IsLeft}
use Rattle.branch_tree.proofs.EarliestDelays.{none_better}
use Rattle.branch_tree.proofs.finding.closed_at.Goals as goal

pub unreachable-requires : goal.unreachable-requires
unreachable-requires c =
    let i = c.args.instance.now in
    let d = c.args.choice.now in
    let left : IsLeft i d c.args.ticks c.in-At.field-0 = subst (λ (t : Trial). IsTrial i d c.args.ticks t) c.in-At.is c.in_ok-leaf.ensures in
    none_better i d c.args.ticks c.requires.least (left.finds c.requires.complete)
