use Rattle.std.proofs.Common.{◌++◌, All, List, refl, reverse, sym, ap, ◌∙◌, subst}
use Rattle.std.proofs.lemmas.List.{append-nil}
use Rattle.std.proofs.lemmas.List.Elements.{All-nil}
use Rattle.tt_choice.specs.Choice.{Choice}
use Rattle.tt_infer.specs.Leaves.{ClosesSharply}
use Rattle.certificate.specs.declared.node.Node.TheVariants as node
use Rattle.search_workers.specs.Task.{Task, IsTask, choice_of}
use Rattle.search_workers.specs.Tasks.{Turn}
use Rattle.search_workers.proofs.Children.{leaf_right}
use Rattle.planner.proofs.ChildrenStand.{no_kids}
use Rattle.planner.proofs.replay.Replay.close.Goals as goal

-- the task and its leaf without idle steps are a turn, which gives no task
pub returns : goal.returns
returns c =
    let i = c.args.instance.now in
    let t = c.args.task in
    let old = c.args.self.now in
    let sharp = c.in_ok-sharp.sharp in
    let closes : ClosesSharply i (choice_of i t) sharp = subst (λ (d : Choice). ClosesSharply i d sharp) c.requires.choice c.in_ok-sharp.ensures.closes in
    let turn : Turn = record { task = t; piece = record { name = c.into_name-name.result; node = node.Leaf sharp } } in
    let none = no_kids i turn sharp refl in
    record {
      turn = turn;
      sharp = sharp;
      is = refl;
      node_is = refl;
      goal = c.in_ok-sharp.ensures.goal;
      takes = record {
        right = record { of = c.requires.task; name = c.into_name-name.ensures; right = leaf_right i (choice_of i t) sharp closes; sharp = closes };
        children = subst (All (IsTask i)) (sym none) (All-nil (IsTask i));
        pieces = c.in_ok-push.ensures.items;
        next = sym (append-nil old.next.items) ∙ ap (λ (l : List Task). old.next.items ++ reverse l) (sym none);
        tasks = refl;
        leaves = refl;
        aim = refl;
      };
    }
