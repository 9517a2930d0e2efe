use Rattle.std.proofs.Common.{subst, sym, ◌∙◌, Option}
use Rattle.ttp_model.specs.declared.step.Kind.{Kind}
use Rattle.tt_choice.specs.Choice.{Choice}
use Rattle.search_trees.specs.Task.{choice_of}
use Rattle.branch_tree.specs.Branching.{IsBranching, Branches}
use Rattle.branch_tree.proofs.Splits.{split_of, some_place}
use Rattle.branch_tree.proofs.working.taken.Goals as goal

pub returns : goal.returns
returns c =
    let i = c.args.instance.now in
    let t = c.args.task.now in
    let taken = c.in-Some.kind in
    let open_here : IsBranching i c.args.choice.now taken = subst (λ (k : Option Kind). Branches i c.args.choice.now k) c.in-Some.is c.requires.branches in
    let branching : IsBranching i (choice_of i t) taken = subst (λ (d : Choice). IsBranching i d taken) c.requires.choice open_here in
    split_of i t c.args.goal taken c.in_ok-tasks.tasks.items c.nodes-nodes.ensures.instance c.requires.task c.requires.above branching c.in_ok-tasks.ensures
    (λ root several. some_place taken (sym c.in-Some.is ∙ c.requires.root root several))
