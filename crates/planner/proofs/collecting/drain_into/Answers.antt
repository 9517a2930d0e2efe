use Rattle.std.proofs.Common.{◌++◌, ◌∷◌, [], List, All, refl, sym, ap, ◌∙◌, subst, append_assoc}
use Rattle.std.proofs.lemmas.List.{append-nil}
use Rattle.std.proofs.lemmas.List.Elements.{All-push}
use Rattle.std.proofs.lemmas.List.Sorted.{IsPermutation-refl, IsPermutation-trans, IsPermutation-append_right}
use Rattle.search_workers.specs.Task.{Task, IsTask}
use Rattle.search_workers.specs.Drained.{taken_there}
use Rattle.search_workers.proofs.Searching.{first_is}
use Rattle.planner.proofs.Collected.{one_drained}
use Rattle.planner.proofs.collecting.drain_into.Goals as goal

pub left-init : goal.left-init
left-init g c = record {
  drained = [];
  tasks = sym (append-nil c.args.tasks.now.items);
  each = c.requires.tasks;
  pushes = refl;
  takes = IsPermutation-refl (taken_there c.drain-left.result);
}

pub left-preserved : goal.left-preserved
left-preserved g c =
    let inv = c.left.invariant in
    let task = c.in-Some.task in
    let P : Task → Type 0 = IsTask g.J.Searched.instance in
    record {
      drained = inv.drained ++ task ∷ [];
      tasks = c.in_ok-push-in-Some.ensures.items ∙ ap (λ (l : List Task). l ++ task ∷ []) inv.tasks ∙ append_assoc c.args.tasks.now.items inv.drained (task ∷ []);
      each = subst (All P) (sym c.in_ok-push-in-Some.ensures.items) (All-push P c.left.tasks.items task inv.each c.in-Some.ensures.task);
      pushes = c.next.ensures.pushed ∙ inv.pushes;
      takes = one_drained task inv.drained (taken_there c.next.new.self) (taken_there c.left.left) (taken_there c.drain-left.result) c.in-Some.ensures.some inv.takes;
    }

pub returns-clause-left : goal.returns-clause-left
returns-clause-left g c =
    let inv = c.left.invariant in
    let pushes = sym (c.next.ensures.pushed ∙ inv.pushes ∙ c.drain-left.ensures.pushed) in
    let takes = IsPermutation-trans _ _ _ inv.takes (IsPermutation-append_right inv.drained _ _ c.drain-left.ensures.taken) in
    let balance = first_is _ _ _ pushes (IsPermutation-trans _ _ _ c.in-None.ensures.none (first_is _ _ _ c.in-None.ensures.same takes)) in
    record { drained = inv.drained; then = inv.tasks; balance = balance }
