use Rattle.std.proofs.Common.{◌⊎◌, ◌++◌, ◌+◌, ◌≤◌, All, List, length, refl, reverse, ap, ◌∙◌, subst}
use Rattle.tt_choice.specs.Choice.{Choice}
use Rattle.tt_choice.specs.Branches.{IsBranch}
use Rattle.tt_choice.specs.Sizes.{size_left, Halves}
use Rattle.certificate.specs.declared.node.Node.TheVariants as node
use Rattle.certificate.specs.Limits.{most_branches_above}
use Rattle.search_workers.specs.Task.{Task, IsTask, choice_of}
use Rattle.search_workers.specs.Tasks.{Turn}
use Rattle.planner.proofs.ChildrenStand.{kids_born, kids_are_tasks}
use Rattle.planner.proofs.replay.Replay.split.Goals as goal

-- the task and its branch are a turn, which gives the children's tasks
pub returns : goal.returns
returns c =
    let i = c.args.instance.now in
    let t = c.args.task in
    let b = c.args.branch.now in
    let old = c.args.self.now in
    let kids = c.in_ok-children.children.items in
    let right : IsBranch i (choice_of i t) b.kind b.children = subst (λ (d : Choice). IsBranch i d b.kind b.children) c.requires.choice c.requires.right in
    let fits : Halves (choice_of i t) b.kind ⊎ (length t.name + 1 + size_left i (choice_of i t) ≤ most_branches_above)
    = subst (λ (d : Choice). Halves d b.kind ⊎ (length t.name + 1 + size_left i d ≤ most_branches_above)) c.requires.choice c.requires.fits in
    let turn : Turn = record { task = t; piece = record { name = c.into_name-name.result; node = node.Branch b } } in
    let born_is = kids_born i t b kids c.in_ok-children.ensures right turn refl refl in
    let tasks = kids_are_tasks i t b kids c.in_ok-children.ensures right c.nodes-nodes.ensures.instance c.requires.task fits in
    record {
      turn = turn;
      is = refl;
      node_is = refl;
      takes = record {
        right = record { of = c.requires.task; name = c.into_name-name.ensures; right = right; sharp = tt };
        children = subst (All (IsTask i)) born_is tasks;
        pieces = c.in_ok-push.ensures.items;
        next = c.in_ok-put_in_front.ensures ∙ ap (λ (l : List Task). old.next.items ++ reverse l) born_is;
        tasks = refl;
        leaves = refl;
        aim = refl;
      };
    }
