use Rattle.std.proofs.Common.{arith, ℕ, ◌≤◌, ◌++◌, All, List, [], ◌∷◌, inl, inr, refl, sym, ap, ◌∙◌, subst}
use Rattle.std.proofs.lemmas.Result.{err_from_is_err_and}
use Rattle.std.proofs.lemmas.List.Elements.{All-nil}
use Rattle.branch_tree.specs.Task.{Task, IsTask}
use Rattle.incumbent.specs.Watch.{offers}
use Rattle.steal_pool.specs.Hand.{pushed}
use Rattle.ttp_model.specs.Instance.{Instance}
use Rattle.search_workers.specs.Gains.{Gains, HasChildren, HasPlan, IsLeafOf}
use Rattle.search_workers.specs.Goals.{goals_at, IsBelowGoals, IsReached}
use Rattle.search_workers.specs.Tasks.{Turn}
use Rattle.search_workers.specs.Run.{Pushes}
use Rattle.search_workers.proofs.Goals.{below_goals, goal_below}
use Rattle.search_workers.proofs.Pushes.{none_pushed}
use Rattle.search_workers.proofs.Watches.{last, looked, offered, lower, one, follows_still}
use Rattle.search_workers.proofs.run.Run.make.Goals as goal

pub push_all-left-requires : goal.push_all-left-requires
push_all-left-requires g c =
    let i = c.args.site.now.instance.now in
    let made = c.in_ok-piece.ensures.made in
    let turn : Turn = record { task = c.args.task; piece = c.in_ok-piece.piece } in
    let kids : HasChildren i turn c.in-Children.tasks.items = subst (Gains i c.goal_of-goal.result turn) c.in-Children.is made.gains in
    subst (λ (j : Instance). All (IsTask j) c.in-Children.tasks.items) c.requires.of kids.each

pub note-requires : goal.note-requires
note-requires g c =
    let made = c.in_ok-piece.ensures.made in
    (c.args.site.now.instance.now, c.args.task, c.requires.task, c.begin.ensures.at, made.right.sharp, made.right.right)

pub returns-then-is_err-clause-back : goal.returns-then-is_err-clause-back
returns-then-is_err-clause-back g c = (
  refl,
  record {
    same = record { number = refl; own = refl; deques = refl; out = refl };
    takes = refl;
    pushes = refl;
    pieces = c.make_room.ensures.same;
    spared = refl;
    follows =
        looked c.args.self.now.watch c.look-seen.new.watch c.look-seen.result c.look-seen.ensures.same c.look-seen.ensures.seen c.look-seen.ensures.offers;
    best = record { offered = c.look-seen.ensures.offers; best = refl };
  },
)

pub returns-in_err-piece-clause-back : goal.returns-in_err-piece-clause-back
returns-in_err-piece-clause-back g c =
    let p = err_from_is_err_and c.from_residual.result c.from_residual.ensures.1 in
    rw (p.1, p.2) (
      c.in_err-piece.ensures.back,
      record {
        same = record { number = refl; own = refl; deques = refl; out = refl };
        takes = refl;
        pushes = refl;
        pieces = c.make_room.ensures.same;
        spared = refl;
        follows =
            looked c.args.self.now.watch c.look-seen.new.watch c.look-seen.result c.look-seen.ensures.same c.look-seen.ensures.seen c.look-seen.ensures.offers;
        best = record { offered = c.look-seen.ensures.offers; best = refl };
      },
    )

-- The children are those of a branch that is open at the task, and each of them is pushed, or left.
pub returns-in-Children-clause-made : goal.returns-in-Children-clause-made
returns-in-Children-clause-made g c =
    let i = c.args.site.now.instance.now in
    let old = c.args.self.now.watch in
    let made = c.in_ok-piece.ensures.made in
    let turn : Turn = record { task = c.args.task; piece = c.in_ok-piece.piece } in
    let kids : HasChildren i turn c.in-Children.tasks.items = subst (Gains i c.goal_of-goal.result turn) c.in-Children.is made.gains in
    record {
      same = c.push_all-left.ensures.same;
      takes = c.push_all-left.ensures.taken;
      pushes =
          subst (λ (l : List Task). Pushes (pushed c.args.self.now.hand) (pushed c.push_all-left.new.hand) l c.push_all-left.result.items)
          kids.born c.push_all-left.ensures.pushes;
      pieces = c.make_room.ensures.same;
      spared = refl;
      right = made.right;
      left = subst (λ (j : Instance). All (IsTask j) c.push_all-left.result.items) (sym c.requires.of) c.push_all-left.ensures.left;
      follows = looked old c.look-seen.new.watch c.look-seen.result c.look-seen.ensures.same c.look-seen.ensures.seen c.look-seen.ensures.offers;
      below = subst (All (IsBelowGoals i c.args.aims old)) (sym kids.no_goal) (All-nil (IsBelowGoals i c.args.aims old));
      reached = subst (All (IsReached i c.args.aims c.look-seen.new.watch)) (sym kids.no_goal) (All-nil (IsReached i c.args.aims c.look-seen.new.watch));
      best = inl (record { offered = c.look-seen.ensures.offers; best = refl });
    }

pub returns-in-Nothing-clause-made : goal.returns-in-Nothing-clause-made
returns-in-Nothing-clause-made g c =
    let i = c.args.site.now.instance.now in
    let old = c.args.self.now.watch in
    let new = c.look-seen.new.watch in
    let made = c.in_ok-piece.ensures.made in
    let turn : Turn = record { task = c.args.task; piece = c.in_ok-piece.piece } in
    let at : IsLeafOf i c.goal_of-goal.result turn = subst (Gains i c.goal_of-goal.result turn) c.in-Nothing.is made.gains in
    record {
      same = record { number = refl; own = refl; deques = refl; out = refl };
      takes = refl;
      pushes = rw at.none (rw c.new.ensures.items (none_pushed (pushed c.args.self.now.hand) []));
      pieces = c.make_room.ensures.same;
      spared = refl;
      right = made.right;
      left = subst (All (IsTask i)) (sym c.new.ensures.items) (All-nil (IsTask i));
      follows = looked old new c.look-seen.result c.look-seen.ensures.same c.look-seen.ensures.seen c.look-seen.ensures.offers;
      below =
          subst (λ n. All (IsBelowGoals i c.args.aims old) (goals_at n)) (sym at.is)
          (one (IsBelowGoals i c.args.aims old) at.leaf.goal
          (below_goals i c.args.aims old c.look-seen.result at.leaf.goal c.look-seen.ensures.below (omega (arith, at.at, c.goal_of-goal.ensures))));
      reached =
          subst (λ n. All (IsReached i c.args.aims new) (goals_at n)) (sym at.is)
          (one (IsReached i c.args.aims new) at.leaf.goal (record {
            value = c.look-seen.result;
            known = inl (last _ _ c.look-seen.result c.look-seen.ensures.seen);
            at_most = omega (arith, at.at, c.goal_of-goal.ensures);
          }));
      best = inl (record { offered = c.look-seen.ensures.offers; best = refl });
    }

pub returns-in-Found-clause-made : goal.returns-in-Found-clause-made
returns-in-Found-clause-made g c =
    let i = c.args.site.now.instance.now in
    let old = c.args.self.now.watch in
    let mid = c.look-seen.new.watch in
    let new = c.offer.new.watch in
    let made = c.in_ok-piece.ensures.made in
    let turn : Turn = record { task = c.args.task; piece = c.in_ok-piece.piece } in
    let find : HasPlan i c.goal_of-goal.result turn c.in-Found.found = subst (Gains i c.goal_of-goal.result turn) c.in-Found.is made.gains in
    let at = find.leaf in
    let looks = looked old mid c.look-seen.result c.look-seen.ensures.same c.look-seen.ensures.seen c.look-seen.ensures.offers in
    let offers_one = offered mid new c.offer.result c.in-Found.found.delay c.offer.ensures.same c.offer.ensures.seen c.offer.ensures.offers in
    let lower_goal = goal_below i c.args.aims c.look-seen.result in
    let later : c.in-Found.found.delay ≤ c.look-seen.result = omega (arith, find.below, find.no_later, c.goal_of-goal.ensures, lower_goal) in
    record {
      same = record { number = refl; own = refl; deques = refl; out = refl };
      takes = refl;
      pushes = rw at.none (rw c.new-in-Found.ensures.items (none_pushed (pushed c.args.self.now.hand) []));
      pieces = c.make_room.ensures.same;
      spared = refl;
      right = made.right;
      left = subst (All (IsTask i)) (sym c.new-in-Found.ensures.items) (All-nil (IsTask i));
      follows = follows_still old mid new looks offers_one;
      below =
          subst (λ n. All (IsBelowGoals i c.args.aims old) (goals_at n)) (sym at.is)
          (one (IsBelowGoals i c.args.aims old) at.leaf.goal
          (below_goals i c.args.aims old c.look-seen.result at.leaf.goal c.look-seen.ensures.below (omega (arith, at.at, find.below, c.goal_of-goal.ensures))));
      reached =
          subst (λ n. All (IsReached i c.args.aims new) (goals_at n)) (sym at.is)
          (one (IsReached i c.args.aims new) at.leaf.goal (record {
            value = c.in-Found.found.delay;
            known = inr (last _ _ c.in-Found.found.delay c.offer.ensures.offers);
            at_most = omega (arith, at.at, find.no_later, goal_below i c.args.aims c.in-Found.found.delay);
          }));
      best = inr (record {
        found = c.in-Found.found;
        is = find.found;
        best = refl;
        offered = c.offer.ensures.offers ∙ ap (λ (l : List ℕ). l ++ c.in-Found.found.delay ∷ []) c.look-seen.ensures.offers;
        least = lower c.look-seen.result c.in-Found.found.delay (offers old) later c.look-seen.ensures.below.1;
      });
    }

pub found-requires : goal.found-requires
found-requires g c =
    let i = c.args.site.now.instance.now in
    let turn : Turn = record { task = c.args.task; piece = c.in_ok-piece.piece } in
    let find : HasPlan i c.goal_of-goal.result turn c.in-Found.found = subst (Gains i c.goal_of-goal.result turn) c.in-Found.is c.in_ok-piece.ensures.made.gains in
    find.found

pub returns-in-Children-clause-holds : goal.returns-in-Children-clause-holds
returns-in-Children-clause-holds g c = λ low top all before. c.note.ensures c.args.site.now.instance.now low all (c.begin.ensures.holds low top before)

pub returns-in-Nothing-clause-holds : goal.returns-in-Nothing-clause-holds
returns-in-Nothing-clause-holds g c = λ low top all before. c.note.ensures c.args.site.now.instance.now low all (c.begin.ensures.holds low top before)

pub returns-in-Found-clause-holds : goal.returns-in-Found-clause-holds
returns-in-Found-clause-holds g c = λ low top all before. c.note.ensures c.args.site.now.instance.now low all (c.begin.ensures.holds low top before)
