use Rattle.std.proofs.Common.{arith, ◌≤◌, ◌++◌, Option, Some, List, [], ◌∷◌, sym, subst, append_assoc}
use Rattle.std.proofs.lemmas.List.{append-nil}
use Rattle.std.proofs.lemmas.List.Elements.{All-nil}
use Rattle.search_workers.specs.declared.found.FoundPlan.{FoundPlan}
use Rattle.search_workers.specs.Task.{Task, IsTask}
use Rattle.search_workers.specs.Gains.{Gains, HasChildren, HasPlan, IsLeafOf}
use Rattle.search_workers.specs.Tasks.{Turn}
use Rattle.search_workers.specs.Searching.{aim_of, limit_of, IsSearchingOf}
use Rattle.search_workers.proofs.Goals.{goal_below}
use Rattle.search_workers.proofs.Searching.{branch_goal, leaf_goal, works}
use Rattle.search_workers.proofs.search.Search.add.Goals as goal

pub open_all-requires : goal.open_all-requires
open_all-requires g c =
    let i = c.args.instance.now in
    let best = c.args.self.now.best in
    let made = c.requires.worked.2 in
    let turn : Turn = record { task = c.requires.worked.1; piece = c.args.piece } in
    let kids : HasChildren i turn c.in-Children.tasks.items = subst (Gains i (aim_of i c.requires.worked.0 best) turn) c.in-Children.is made.gains in
    omega (arith, kids.few, c.requires.split, c.in-Children.tasks.ok.0)

pub returns-in-Children-clause-searching : goal.returns-in-Children-clause-searching
returns-in-Children-clause-searching g c = λ aims task roots aside made searching.
    let i = c.args.instance.now in
    let old = c.args.self.now in
    let turn : Turn = record { task = task; piece = c.args.piece } in
    let kids : HasChildren i turn c.in-Children.tasks.items = subst (Gains i (aim_of i aims old.best) turn) c.in-Children.is made.gains in
    let after = works i aims roots old.pieces.items (aside ++ old.tasks.items) turn old.best old.best c.in-Children.tasks.items searching made.right kids.born
    kids.each (omega arith) (branch_goal (aim_of i aims old.best) c.args.piece.node kids.no_goal) searching.found in
    rw c.push_reserved.ensures.items (rw c.open_all.ensures
    (subst (λ (l : List Task). IsSearchingOf i aims roots (old.pieces.items ++ c.args.piece ∷ []) l old.best)
    (append_assoc aside old.tasks.items c.in-Children.tasks.items) after))

pub returns-in-Nothing-clause-searching : goal.returns-in-Nothing-clause-searching
returns-in-Nothing-clause-searching g c = λ aims task roots aside made searching.
    let i = c.args.instance.now in
    let old = c.args.self.now in
    let turn : Turn = record { task = task; piece = c.args.piece } in
    let at : IsLeafOf i (aim_of i aims old.best) turn = subst (Gains i (aim_of i aims old.best) turn) c.in-Nothing.is made.gains in
    let after = works i aims roots old.pieces.items (aside ++ old.tasks.items) turn old.best old.best [] searching made.right (sym at.none) (All-nil (IsTask i)) (omega arith)
    (leaf_goal (aim_of i aims old.best) c.args.piece.node at.leaf at.is (omega (arith, at.at))) searching.found in
    rw c.push_reserved.ensures.items (subst (λ (l : List Task). IsSearchingOf i aims roots (old.pieces.items ++ c.args.piece ∷ []) l old.best) (append-nil (aside ++ old.tasks.items)) after)

pub returns-in-Found-clause-searching : goal.returns-in-Found-clause-searching
returns-in-Found-clause-searching g c = λ aims task roots aside made searching.
    let i = c.args.instance.now in
    let old = c.args.self.now in
    let turn : Turn = record { task = task; piece = c.args.piece } in
    let best : Option FoundPlan = Some c.in-Found.found in
    let find : HasPlan i (aim_of i aims old.best) turn c.in-Found.found = subst (Gains i (aim_of i aims old.best) turn) c.in-Found.is made.gains in
    let lower : c.in-Found.found.delay ≤ limit_of i old.best = omega (arith, find.no_later, find.below, goal_below i aims (limit_of i old.best)) in
    let reached : aim_of i aims best ≤ find.leaf.leaf.goal = omega (arith, find.no_later, find.leaf.at, goal_below i aims c.in-Found.found.delay) in
    let after = works i aims roots old.pieces.items (aside ++ old.tasks.items) turn old.best best [] searching made.right (sym find.leaf.none) (All-nil (IsTask i)) lower
    (leaf_goal (aim_of i aims best) c.args.piece.node find.leaf.leaf find.leaf.is reached) find.found in
    rw c.push_reserved.ensures.items (subst (λ (l : List Task). IsSearchingOf i aims roots (old.pieces.items ++ c.args.piece ∷ []) l best) (append-nil (aside ++ old.tasks.items)) after)

pub found-requires : goal.found-requires
found-requires g c =
    let i = c.args.instance.now in
    let turn : Turn = record { task = c.requires.worked.1; piece = c.args.piece } in
    let find : HasPlan i (aim_of i c.requires.worked.0 c.args.self.now.best) turn c.in-Found.found =
    subst (Gains i (aim_of i c.requires.worked.0 c.args.self.now.best) turn) c.in-Found.is c.requires.worked.2.gains in
    find.found

pub returns-in-Found-clause-no_later : goal.returns-in-Found-clause-no_later
returns-in-Found-clause-no_later g c =
    let i = c.args.instance.now in
    let turn : Turn = record { task = c.requires.worked.1; piece = c.args.piece } in
    let find : HasPlan i (aim_of i c.requires.worked.0 c.args.self.now.best) turn c.in-Found.found =
    subst (Gains i (aim_of i c.requires.worked.0 c.args.self.now.best) turn) c.in-Found.is c.requires.worked.2.gains in
    omega (arith, find.no_later, find.below, goal_below i c.requires.worked.0 (limit_of i c.args.self.now.best))
