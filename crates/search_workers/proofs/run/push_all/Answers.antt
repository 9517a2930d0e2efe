use Rattle.std.proofs.Common.{All, [], ◌∷◌, ◌++◌, refl, ◌∙◌, subst}
use Rattle.std.proofs.lemmas.List.Elements.{All-tail}
use Rattle.std.proofs.lemmas.List.Sorted.{All-permutation, IsPermutation-append_comm}
use Rattle.branch_tree.specs.Task.{Task, IsTask}
use Rattle.steal_pool.specs.Hand.{pushed}
use Rattle.search_workers.proofs.Pushes.{none_pushed, one_pushed, pushed_of}
use Rattle.search_workers.proofs.Turns.{same_hand_still}
use Rattle.search_workers.proofs.run.push_all.Goals as goal

pub loop-task-init : goal.loop-task-init
loop-task-init g c =
    let left = c.in_turn-left.result.items in
    let before = pushed c.args.hand.now in
    record {
      same = record { number = refl; own = refl; deques = refl; out = refl };
      takes = refl;
      pushes = pushed_of before before c.args.tasks.items left left c.in_turn-left.ensures (none_pushed before left);
      each = All-permutation (IsTask g.J.Searched.instance) c.args.tasks.items left c.in_turn-left.ensures c.requires;
    }

pub loop-task-preserved : goal.loop-task-preserved
loop-task-preserved g c =
    let before = c.loop-task.invariant in
    let left = c.pop.new.self.items in
    let P : Task → Type 0 = IsTask g.J.Searched.instance in
    record {
      same = same_hand_still c.args.hand.now c.loop-task.hand c.push.new.self before.same c.push.ensures.same;
      takes = c.push.ensures.taken ∙ before.takes;
      pushes =
          one_pushed (pushed c.args.hand.now) (pushed c.loop-task.hand) (pushed c.push.new.self)
          c.args.tasks.items c.loop-task.left.items c.pop.new.self.items c.in-Some.task before.pushes c.in-Some.ensures.items c.in_default-push.ensures.ok;
      each =
          All-tail P c.in-Some.task left (All-permutation P (left ++ c.in-Some.task ∷ []) (c.in-Some.task ∷ left)
          (IsPermutation-append_comm left (c.in-Some.task ∷ [])) (subst (All P) c.in-Some.ensures.items before.each));
    }
