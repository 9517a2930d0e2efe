use Rattle.std.proofs.Common.{rules, ◌≡◌, All, [], ◌∷◌, ◌++◌, List, refl, sym, ap, ◌∙◌, subst, append_assoc}
use Rattle.std.specs.List.Sorted.{IsPermutation}
use Rattle.std.proofs.lemmas.List.{append-nil}
use Rattle.std.proofs.lemmas.List.Elements.{All-tail}
use Rattle.std.proofs.lemmas.List.Sorted.{All-permutation, IsPermutation-refl, IsPermutation-trans, IsPermutation-append_comm, IsPermutation-append_right}
use Rattle.search_workers.specs.Task.{Task, IsTask}
use Rattle.search_workers.specs.Hand.{pushed}
use Rattle.search_workers.proofs.Orders.{nil_of_length}
use Rattle.search_workers.proofs.Searching.{first_is}
use Rattle.search_workers.proofs.Turns.{same_hand_still}
use Rattle.planner.proofs.collecting.give.Goals as goal

pub loop-task-init : goal.loop-task-init
loop-task-init g c = record {
  same = record { number = refl; own = refl; deques = refl; out = refl };
  takes = refl;
  gave = [];
  pushes = sym (append-nil (pushed c.args.hand.now));
  all = IsPermutation-refl c.args.tasks.items;
  each = c.requires;
}

pub loop-task-preserved : goal.loop-task-preserved
loop-task-preserved g c =
    let before = c.loop-task.invariant in
    let rest = c.pop.new.self.items in
    let t = c.in-Some.task in
    let P : Task → Type 0 = IsTask g.J.Searched.instance in
    record {
      same = same_hand_still c.args.hand.now c.loop-task.hand c.push.new.self before.same c.push.ensures.same;
      takes = c.push.ensures.taken ∙ before.takes;
      gave = before.gave ++ t ∷ [];
      pushes = c.in_default-push.ensures.ok ∙ ap (λ (l : List Task). l ++ t ∷ []) before.pushes ∙ append_assoc (pushed c.args.hand.now) before.gave (t ∷ []);
      all = first_is _ _ _ (append_assoc before.gave (t ∷ []) rest)
          (IsPermutation-trans _ _ _ (IsPermutation-append_right before.gave (t ∷ rest) (rest ++ t ∷ []) (IsPermutation-append_comm (t ∷ []) rest))
          (subst (λ (l : List Task). IsPermutation (before.gave ++ l) c.args.tasks.items) c.in-Some.ensures.items before.all));
      each = All-tail P t rest (All-permutation P (rest ++ t ∷ []) (t ∷ rest) (IsPermutation-append_comm rest (t ∷ []))
          (subst (All P) c.in-Some.ensures.items before.each));
    }

pub returns : goal.returns
returns g c =
    let end = c.loop-task.invariant in
    let none : c.loop-task.left.items ≡ [] = nil_of_length c.loop-task.left.items (search rules) in
    record {
      given = record {
        same = end.same;
        gave = end.gave;
        pushes = end.pushes;
        all = first_is _ _ _ (sym (append-nil end.gave)) (subst (λ (l : List Task). IsPermutation (end.gave ++ l) c.args.tasks.items) none end.all);
        takes = end.takes;
      };
    }
