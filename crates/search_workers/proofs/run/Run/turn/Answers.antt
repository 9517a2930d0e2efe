use Rattle.std.proofs.Common.{rules, ◌≡◌, ◌++◌, List, [], ◌∷◌, ⊎_elim, refl, sym, ap, ◌∙◌, subst}
use Rattle.branch_tree.specs.piece.Piece.{Piece}
use Rattle.branch_tree.specs.Task.{Task, IsTask}
use Rattle.ttp_model.specs.Instance.{Instance}
use Rattle.std.proofs.lemmas.List.Elements.{All-nil}
use Rattle.steal_pool.specs.Hand.{pushed}
use Rattle.steal_pool.proofs.Orders.{first_same, nil_of_length}
use Rattle.search_workers.specs.declared.report.Rest.TheVariants.{Nothing, One, Children}
use Rattle.search_workers.specs.Report.{HasAccount}
use Rattle.search_workers.specs.declared.run.Run.{Run}
use Rattle.search_workers.specs.Tasks.{Turn, born}
use Rattle.search_workers.specs.Goals.{AreGoals, goals_of}
use Rattle.search_workers.specs.Run.{KeepsBest, FindsBest, Pushes, rest_after}
use Rattle.search_workers.proofs.Turns.{same_hand_still, account_leaves, account_works, goals_more, goals_still, best_still, best_found}
use Rattle.search_workers.proofs.Spared.{spared_more}
use Rattle.search_workers.proofs.Watches.{follows_still}
use Rattle.search_workers.proofs.run.Run.turn.Goals as goal

pub make-requires-clause-task : goal.make-requires-clause-task
make-requires-clause-task g c = subst (λ (j : Instance). IsTask j c.in-Some.task) (sym c.requires.of) c.in-Some.ensures.task

pub returns-else-is_empty-clause-goes_on : goal.returns-else-is_empty-clause-goes_on
returns-else-is_empty-clause-goes_on g c = λ hand watch run.
    let i = c.args.site.now.instance.now in
    let old = c.args.self.now in
    let made = c.in-Ok.ensures.made in
    let pieces = c.push_reserved.ensures.items ∙ ap (λ (l : List Piece). l ++ c.in-Ok.piece ∷ []) made.pieces in
    let turn : Turn = record { task = c.in-Some.task; piece = c.in-Ok.piece } in
    let mid : Run g.row.J.Denot = record {
      hand = c.take.new.self;
      watch = old.watch;
      pieces = old.pieces;
      spared = old.spared;
      room = old.room;
      workers = old.workers;
      best = old.best;
    } in
    let account = account_works i hand old.hand c.take.new.self c.make.new.self.hand old.pieces.items turn old.spared.items (Children c.in-Ok.left)
    refl c.in-Some.ensures.some c.in-Some.ensures.pushed made.takes made.pushes made.right made.left run.account in
    record {
      same = same_hand_still hand old.hand _ run.same (same_hand_still old.hand c.take.new.self c.make.new.self.hand c.in-Some.ensures.same made.same);
      follows = follows_still watch old.watch c.make.new.self.watch run.follows made.follows;
      account = rw pieces (rw made.spared account);
      goals =
          goals_more i c.args.course.aims watch old.watch c.make.new.self.watch run.follows made.follows old.pieces.items c.push_reserved.new.self.items c.in-Ok.piece
          pieces run.goals made.below made.reached;
      best =
          ⊎_elim (λ (k : KeepsBest mid c.make.new.self). best_still i watch mid c.make.new.self k run.best)
          (λ (f : FindsBest i mid c.make.new.self). best_found i watch mid c.make.new.self f run.best) made.best;
    }

pub returns-then-is_empty-clause-goes_on : goal.returns-then-is_empty-clause-goes_on
returns-then-is_empty-clause-goes_on g c = λ hand watch run.
    let i = c.args.site.now.instance.now in
    let old = c.args.self.now in
    let made = c.in-Ok.ensures.made in
    let pieces = c.push_reserved.ensures.items ∙ ap (λ (l : List Piece). l ++ c.in-Ok.piece ∷ []) made.pieces in
    let turn : Turn = record { task = c.in-Some.task; piece = c.in-Ok.piece } in
    let mid : Run g.row.J.Denot = record {
      hand = c.take.new.self;
      watch = old.watch;
      pieces = old.pieces;
      spared = old.spared;
      room = old.room;
      workers = old.workers;
      best = old.best;
    } in
    let none : c.in-Ok.left.items ≡ [] = nil_of_length c.in-Ok.left.items (search rules) in
    let pushes = subst (Pushes (pushed c.take.new.self) (pushed c.make.new.self.hand) (born i turn)) none made.pushes in
    let account = account_works i hand old.hand c.take.new.self c.make.new.self.hand old.pieces.items turn old.spared.items Nothing refl
    c.in-Some.ensures.some c.in-Some.ensures.pushed made.takes pushes made.right (All-nil (IsTask i)) run.account in
    record {
      same = same_hand_still hand old.hand _ run.same (same_hand_still old.hand c.take.new.self c.make.new.self.hand c.in-Some.ensures.same made.same);
      follows = follows_still watch old.watch c.make.new.self.watch run.follows made.follows;
      account = rw pieces (rw made.spared account);
      goals =
          goals_more i c.args.course.aims watch old.watch c.make.new.self.watch run.follows made.follows old.pieces.items c.push_reserved.new.self.items c.in-Ok.piece
          pieces run.goals made.below made.reached;
      best =
          ⊎_elim (λ (k : KeepsBest mid c.make.new.self). best_still i watch mid c.make.new.self k run.best)
          (λ (f : FindsBest i mid c.make.new.self). best_found i watch mid c.make.new.self f run.best) made.best;
    }

pub returns-in-Err-clause-goes_on : goal.returns-in-Err-clause-goes_on
returns-in-Err-clause-goes_on g c = λ hand watch run.
    let i = c.args.site.now.instance.now in
    let old = c.args.self.now in
    let back = c.in-Err.ensures.back in
    let mid : Run g.row.J.Denot = record {
      hand = c.take.new.self;
      watch = old.watch;
      pieces = old.pieces;
      spared = old.spared;
      room = old.room;
      workers = old.workers;
      best = old.best;
    } in
    let is : IsTask i c.in-Some.task = subst (λ (j : Instance). IsTask j c.in-Some.task) (sym c.requires.of) c.in-Some.ensures.task in
    let one = account_leaves i hand old.hand c.make.new.self.hand old.pieces.items c.in-Some.task old.spared.items old.spared.items
    (One c.in-Some.task) (first_same _ _ _ back.1.takes c.in-Some.ensures.some) (back.1.pushes ∙ c.in-Some.ensures.pushed) is refl refl run.account in
    let same : HasAccount i hand c.make.new.self.hand old.pieces.items old.spared.items (One c.in-Err.task) = subst
    (λ (t : Task). HasAccount i hand c.make.new.self.hand old.pieces.items old.spared.items (One t)) (sym back.0) one in
    record {
      same = same_hand_still hand old.hand _ run.same (same_hand_still old.hand c.take.new.self c.make.new.self.hand c.in-Some.ensures.same back.1.same);
      follows = follows_still watch old.watch c.make.new.self.watch run.follows back.1.follows;
      account = rw back.1.pieces (rw back.1.spared same);
      goals =
          subst (λ (l : List Piece). AreGoals i c.args.course.aims watch c.make.new.self.watch (goals_of l)) (sym back.1.pieces)
          (goals_still i c.args.course.aims watch old.watch c.make.new.self.watch run.follows back.1.follows (goals_of old.pieces.items) run.goals);
      best = best_still i watch mid c.make.new.self back.1.best run.best;
    }

pub returns-then-is_left-clause-goes_on : goal.returns-then-is_left-clause-goes_on
returns-then-is_left-clause-goes_on g c = λ hand watch run.
    let i = c.args.site.now.instance.now in
    let old = c.args.self.now in
    let spares = c.spare.ensures.spares in
    let is : IsTask i c.in-Some.task = subst (λ (j : Instance). IsTask j c.in-Some.task) (sym c.requires.of) c.in-Some.ensures.task in
    let account = account_leaves i hand old.hand c.take.new.self old.pieces.items c.in-Some.task old.spared.items c.spare.new.self.spared.items
    (rest_after c.spare.result) c.in-Some.ensures.some c.in-Some.ensures.pushed is spares.left spares.others run.account in
    record {
      same = rw spares.hand (same_hand_still hand old.hand c.take.new.self run.same c.in-Some.ensures.same);
      follows = rw spares.watch run.follows;
      account = rw spares.hand (rw spares.pieces account);
      goals = rw spares.watch (rw spares.pieces run.goals);
      best = rw spares.watch (rw spares.best run.best);
    }

pub returns-then-is_left-clause-worked : goal.returns-then-is_left-clause-worked
returns-then-is_left-clause-worked g c = λ worked. absurd (c.spare.ensures.spares.unworked worked)

pub returns-then-is_empty-clause-spared : goal.returns-then-is_empty-clause-spared
returns-then-is_empty-clause-spared g c =
    let old = c.args.self.now in
    let made = c.in-Ok.ensures.made in
    let pieces = c.push_reserved.ensures.items ∙ ap (λ (l : List Piece). l ++ c.in-Ok.piece ∷ []) made.pieces in
    rw pieces (rw made.spared (spared_more c.args.site.now.instance.now old.pieces.items c.in-Ok.piece old.spared.items c.args.needs.now c.make.new.needs
    c.requires.spared c.in-Ok.ensures.holds))

pub returns-else-is_empty-clause-spared : goal.returns-else-is_empty-clause-spared
returns-else-is_empty-clause-spared g c =
    let old = c.args.self.now in
    let made = c.in-Ok.ensures.made in
    let pieces = c.push_reserved.ensures.items ∙ ap (λ (l : List Piece). l ++ c.in-Ok.piece ∷ []) made.pieces in
    rw pieces (rw made.spared (spared_more c.args.site.now.instance.now old.pieces.items c.in-Ok.piece old.spared.items c.args.needs.now c.make.new.needs
    c.requires.spared c.in-Ok.ensures.holds))
