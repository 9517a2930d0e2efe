use Rattle.std.proofs.Common.{◌≡◌, ◌∙◌, ap, arith, rules, length}
use Rattle.std.proofs.lemmas.Iterator.Consumers.{YieldsList-turn, YieldsList-end}
use Rattle.std.proofs.lemmas.Iterator.Adapters.{YieldsList-from_vec}
use Rattle.std.proofs.lemmas.List.{length_push}
use Rattle.tt_choice.specs.Choice.{Choice}
use Rattle.tt_choice.specs.Decisions.{decisions_of}
use Rattle.search_trees.specs.Name.{child_name}
use Rattle.search_trees.specs.Task.{Task, choice_of}
use Rattle.search_trees.proofs.ChildTasks.{small_number, names_more, decisions_more, all_children}
use Rattle.search_trees.proofs.children.child_tasks.Goals as goal

pub overflow_add-index : goal.overflow_add-index
overflow_add-index c =
    let decisions = c.in_ok-decisions.decisions.items in
    let turn = YieldsList-turn (YieldsList-from_vec {s = c.into_iter-decision-iterator.result} decisions (search rules) (search rules))
    c.loop-decision.yielded c.loop-decision.decision-iterator c.loop-decision.yielded_by c.next.result c.next.new.self c.in-Some.decision
    c.in-Some.is c.next.ensures.steps in
    let small = small_number c.args.instance.now c.args.choice.now c.args.kind.now decisions (length c.loop-decision.yielded)
    c.nodes-nodes.ensures.instance c.requires.of c.requires.is_open c.in_ok-decisions.ensures turn.0 in
    omega (arith, small, c.loop-decision.invariant.number)

pub loop-decision-preserved : goal.loop-decision-preserved
loop-decision-preserved c =
    let inv = c.loop-decision.invariant in
    let t = c.args.task.now in
    let child = c.in_ok-child.child in
    let named = ap (λ (x : Task). x.name) c.in_ok-child.ensures ∙ ap (child_name t.name) inv.number in
    record {
      number = omega (arith, inv.number, length_push c.loop-decision.yielded c.in-Some.decision);
      names =
          names_more t.name c.loop-decision.tasks.items c.push.new.self.items child c.loop-decision.yielded c.in-Some.decision
          c.in_ok-push.ensures.items named inv.names;
      decisions =
          decisions_more t.decisions c.loop-decision.tasks.items c.push.new.self.items child c.loop-decision.yielded c.in-Some.decision
          c.in_ok-push.ensures.items (ap (λ (x : Task). x.decisions) c.in_ok-child.ensures) inv.decisions;
    }

pub returns : goal.returns
returns c =
    let i = c.args.instance.now in
    let t = c.args.task.now in
    let decisions = c.in_ok-decisions.decisions.items in
    let same : decisions ≡ decisions_of i (choice_of i t) c.args.kind.now = c.in_ok-decisions.ensures
    ∙ ap (λ (d : Choice). decisions_of i d c.args.kind.now) c.requires.choice in
    let end = YieldsList-end (YieldsList-from_vec {s = c.into_iter-decision-iterator.result} decisions (search rules) (search rules))
    c.loop-decision.yielded c.loop-decision.decision-iterator c.loop-decision.yielded_by c.next.result c.next.new.self c.in-None.is c.next.ensures.steps in
    all_children i t c.args.kind.now decisions c.loop-decision.yielded c.loop-decision.tasks.items same end.0 c.loop-decision.invariant.names
    c.loop-decision.invariant.decisions
