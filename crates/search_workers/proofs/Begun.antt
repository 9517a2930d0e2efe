-- A run at its beginning.
use Rattle.std.proofs.Common.{◌≡◌, List, [], None, refl, sym, subst}
use Rattle.std.proofs.lemmas.List.Sorted.{IsPermutation-refl}
use Rattle.std.proofs.lemmas.List.{append-nil}
use Rattle.std.proofs.lemmas.List.Elements.{All-nil}
use Rattle.ttp_model.specs.Instance.{Instance}
use Rattle.branch_tree.specs.piece.Piece.{Piece}
use Rattle.branch_tree.specs.Task.{IsTask}
use Rattle.incumbent.specs.declared.word.Watch.{Watch}
use Rattle.incumbent.specs.Watch.{offers}
use Rattle.steal_pool.specs.declared.hand.Hand.{Hand}
use Rattle.steal_pool.specs.Hand.{pushed, taken}
use Rattle.steal_pool.proofs.Orders.{then_same}
use Rattle.search_workers.specs.declared.aims.Aims.{Aims}
use Rattle.search_workers.specs.declared.report.Rest.TheVariants.{Nothing}
use Rattle.search_workers.specs.declared.run.Run.{Run}
use Rattle.search_workers.specs.Tasks.{IsTurn}
use Rattle.search_workers.specs.Goals.{AreGoals, goals_of, IsBelowGoals, IsReached}
use Rattle.search_workers.specs.Best.{IsFoundDelay}
use Rattle.search_workers.specs.Report.{HasAccount}
use Rattle.search_workers.specs.Run.{IsRun}

goals_begin : (i : Instance) (aims : Aims) (watch : Watch) → AreGoals i aims watch watch []
goals_begin i aims watch = record { falls = tt; below = All-nil (IsBelowGoals i aims watch); reached = All-nil (IsReached i aims watch) }

module _ {J : Type 0} (i : Instance) where
  account_begins : (hand : Hand J) → HasAccount i hand hand [] [] Nothing
  account_begins hand = record {
    turns = [];
    each = All-nil (IsTurn i);
    pieces = refl;
    took = [];
    takes = then_same _ _ _ (IsPermutation-refl (taken hand)) (sym (append-nil (taken hand)));
    gave = [];
    pushes = sym (append-nil (pushed hand));
    account = record { took = IsPermutation-refl []; gave = IsPermutation-refl [] };
    one_of = All-nil (IsTask i);
    others_of = All-nil (IsTask i);
  }

  pub begins : (aims : Aims) (run : Run J) → run.pieces.items ≡ [] → run.spared.items ≡ [] → run.best ≡ None → IsRun i aims run.hand run.watch run Nothing
  begins aims run none all_needed no_best = record {
    same = record { number = refl; own = refl; deques = refl; out = refl };
    follows = record { same = record { table = refl; place = refl; opening = refl; out = refl }; sees = λ x h. h; offered = λ x h. h };
    account = rw none (rw all_needed (account_begins run.hand));
    goals = subst (λ (l : List Piece). AreGoals i aims run.watch run.watch (goals_of l)) (sym none) (goals_begin i aims run.watch);
    best = record {
      made = [];
      offered = sym (append-nil (offers run.watch));
      plans = All-nil (IsFoundDelay i);
      best = rw no_best refl;
    };
  }
