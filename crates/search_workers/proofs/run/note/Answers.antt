use Rattle.std.proofs.Common.{subst}
use Rattle.branch_tree.specs.Pieces.{IsRight, IsSharp}
use Rattle.branch_tree.specs.Task.{choice_of}
use Rattle.search_workers.proofs.run.note.Goals as goal

pub split-requires : goal.split-requires
split-requires c =
    let i = c.requires.0 in
    let task = c.requires.1 in
    (i, task.decisions, c.requires.3, subst (IsRight i (choice_of i task)) c.in-Branch.is c.requires.5)

pub close-requires : goal.close-requires
close-requires c =
    let i = c.requires.0 in
    let task = c.requires.1 in
    (i, task.decisions, c.requires.3, c.requires.2.decisions, subst (IsSharp i (choice_of i task)) c.in-Leaf.is c.requires.4)
