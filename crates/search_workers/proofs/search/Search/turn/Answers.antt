use Rattle.std.proofs.Common.{rules, ℕ, ◌≡◌, ◌++◌, All, List, [], ◌∷◌, sym, ap, ◌∙◌, subst, append_assoc, arith}
use Rattle.std.proofs.lemmas.List.Elements.{All-contains}
use Rattle.search_workers.specs.Task.{Task, IsTask}
use Rattle.search_workers.specs.Gains.{IsGain}
use Rattle.search_workers.specs.Searching.{limit_of, IsSearchingOf}
use Rattle.search_workers.proofs.Searching.{last_there, own_tasks}
use Rattle.search_workers.proofs.search.Search.turn.Goals as goal

pub work_task-requires-clause-task : goal.work_task-requires-clause-task
work_task-requires-clause-task g c =
    let i = c.args.site.now.instance.now in
    let t = c.in-Some.task in
    let front = c.pop.new.self.items in
    let popped : c.args.self.now.tasks.items ≡ front ++ t ∷ [] = sym c.make_room.ensures.tasks ∙ (search rules) in
    All-contains (IsTask i) (front ++ t ∷ []) t (subst (All (IsTask i)) popped (own_tasks i c.args.aims c.args.self.now c.requires.searching)) (last_there front t)

pub add-requires-clause-worked : goal.add-requires-clause-worked
add-requires-clause-worked g c =
    (c.args.aims, c.in-Some.task, subst (λ (n : ℕ). IsGain c.args.site.now.instance.now n (record { task = c.in-Some.task; piece = c.in-Ok.piece }) c.in-Ok.gain) c.aim-goal.ensures c.in-Ok.ensures.made)

pub returns-in-Ok-clause-searching : goal.returns-in-Ok-clause-searching
returns-in-Ok-clause-searching g c = λ roots aside searching.
    let i = c.args.site.now.instance.now in
    let s = c.make_room.new.self in
    let t = c.in-Some.task in
    let front = c.pop.new.self.items in
    let start : IsSearchingOf i c.args.aims roots s.pieces.items (aside ++ s.tasks.items) s.best = rw c.make_room.ensures.pieces (rw c.make_room.ensures.tasks (rw c.make_room.ensures.best searching)) in
    let popped : s.tasks.items ≡ front ++ t ∷ [] = search rules in
    let last = ap (λ (l : List Task). aside ++ l) popped ∙ sym (append_assoc aside front (t ∷ [])) in
    let before : IsSearchingOf i c.args.aims roots s.pieces.items ((aside ++ front) ++ t ∷ []) s.best =
    subst (λ (l : List Task). IsSearchingOf i c.args.aims roots s.pieces.items l s.best) last start in
    c.add.ensures.searching c.args.aims t roots aside
    (subst (λ (n : ℕ). IsGain i n (record { task = t; piece = c.in-Ok.piece }) c.in-Ok.gain) c.aim-goal.ensures c.in-Ok.ensures.made) before

pub returns-in-Ok-clause-no_later : goal.returns-in-Ok-clause-no_later
returns-in-Ok-clause-no_later g c =
    let same = ap (limit_of c.args.site.now.instance.now) c.make_room.ensures.best in
    omega (arith, same, c.add.ensures.no_later)
