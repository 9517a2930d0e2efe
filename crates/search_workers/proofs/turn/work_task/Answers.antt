use Rattle.std.proofs.Common.{rules, arith, ◌≡◌, length, refl, ap, ◌∙◌, subst}
use Rattle.branch_tree.specs.Task.{choice_of}
use Rattle.branch_tree.specs.Work.{IsWorked, IsSplit, IsFind, ClosesAt}
use Rattle.branch_tree.proofs.ChildTasks.{few_children}
use Rattle.branch_tree.proofs.Chosen.{task_choice}
use Rattle.certificate.specs.Branch.{branch_of}
use Rattle.search_workers.proofs.Children.{kids_born, branch_right, leaf_right}
use Rattle.search_workers.proofs.turn.work_task.Goals as goal

pub overflow_cast-len : goal.overflow_cast-len
overflow_cast-len c =
    let i = c.args.instance.now in
    let t = c.args.task in
    let kind = c.in-Ok-Split.kind in
    let split : IsSplit i t c.args.goal kind c.in-Ok-Split.tasks.items = subst (IsWorked i t c.args.goal) c.in-Ok-Split.field-0-is c.in-Ok-Split.ensures.worked in
    let w = c.nodes-nodes.ensures.instance in
    omega (arith, c.len.ensures, c.in-Ok-Split.tasks.ok.0, split.branch.just, few_children i (choice_of i t) kind w (task_choice i t w c.requires.task) split.branch.is_open)

pub returns-in-Ok-Split-clause-made : goal.returns-in-Ok-Split-clause-made
returns-in-Ok-Split-clause-made c =
    let i = c.args.instance.now in
    let t = c.args.task in
    let kind = c.in-Ok-Split.kind in
    let kids = c.in-Ok-Split.tasks.items in
    let split : IsSplit i t c.args.goal kind kids = subst (IsWorked i t c.args.goal) c.in-Ok-Split.field-0-is c.in-Ok-Split.ensures.worked in
    let w = c.nodes-nodes.ensures.instance in
    let many : c.len.result ≡ length kids = omega (arith, c.len.ensures, c.in-Ok-Split.tasks.ok.0) in
    let made : c.new.result ≡ branch_of kind (length kids) = c.new.ensures ∙ ap (branch_of kind) many in
    record {
      right = record {
        of = c.requires.task;
        name = search rules;
        right = branch_right i t c.args.goal kind kids split c.in-Ok.name c.new.result made;
        sharp = tt;
      };
      gains = record {
        born = kids_born i t c.args.goal kind kids split c.in-Ok.name c.new.result made;
        each = split.each;
        few = omega (arith, split.branch.just, few_children i (choice_of i t) kind w (task_choice i t w c.requires.task) split.branch.is_open);
        no_goal = refl;
      };
    }

pub returns-in-Ok-Closed-clause-made : goal.returns-in-Ok-Closed-clause-made
returns-in-Ok-Closed-clause-made c =
    let i = c.args.instance.now in
    let t = c.args.task in
    let leaf = c.in-Ok-Closed.leaf in
    let closed : ClosesAt i (choice_of i t) c.args.goal leaf = subst (IsWorked i t c.args.goal) c.in-Ok-Closed.field-0-is c.in-Ok-Closed.ensures.worked in
    record {
      right = record { of = c.requires.task; name = search rules; right = leaf_right i (choice_of i t) leaf closed.closes; sharp = closed.closes };
      gains = record { leaf = leaf; is = refl; at = closed.at; none = refl };
    }

pub returns-in-Ok-Found-clause-made : goal.returns-in-Ok-Found-clause-made
returns-in-Ok-Found-clause-made c =
    let i = c.args.instance.now in
    let t = c.args.task in
    let leaf = c.in-Ok-Found.leaf in
    let find : IsFind i (choice_of i t) c.args.goal c.in-Ok-Found.plan c.in-Ok-Found.delay leaf =
    subst (IsWorked i t c.args.goal) c.in-Ok-Found.field-0-is c.in-Ok-Found.ensures.worked in
    record {
      right = record { of = c.requires.task; name = search rules; right = leaf_right i (choice_of i t) leaf find.closes; sharp = find.closes };
      gains = record {
        low = leaf.goal;
        leaf = record { leaf = leaf; is = refl; at = refl; none = refl };
        below = find.below;
        found = record { settled = find.settled; delay_is = find.delay_is };
        no_later = find.no_later;
      };
    }
