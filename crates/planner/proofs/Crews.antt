-- What workers come to together, with one more report.
use Rattle.std.proofs.Common.{◌≡◌, ℕ, ◌-◌, ◌≤◌, List, [], ◌∷◌, ◌++◌, Option, None, Some, inl, inr, ⊎_elim, sym, ap, subst, ◌∙◌, arith}
use Rattle.std.proofs.Common.{append_assoc, length-append, All, Contains}
use Rattle.std.specs.List.{flat_map}
use Rattle.std.specs.List.Sorted.{IsPermutation}
use Rattle.std.proofs.lemmas.Grind.{flat_map-append}
use Rattle.std.proofs.lemmas.List.{append-nil, map-append}
use Rattle.std.proofs.lemmas.List.Elements.{All-append, All-weaker, All-nil, Contains-append_left, Contains-append_right}
use Rattle.std.proofs.lemmas.List.Sorted.{IsPermutation-refl, IsPermutation-sym, IsPermutation-trans, IsPermutation-append, IsPermutation-append_left, IsPermutation-append_right, IsPermutation-append_comm}
use Rattle.search_workers.specs.declared.found.FoundPlan.{FoundPlan}
use Rattle.ttp_model.specs.Instance.{Instance}
use Rattle.ttp_model.specs.Rules.{IsInstance}
use Rattle.search_workers.specs.piece.Piece.{Piece}
use Rattle.search_workers.specs.Task.{Task, IsTask}
use Rattle.incumbent.specs.declared.word.Incumbent.{Incumbent}
use Rattle.incumbent.specs.Watch.{seen, offers, out_count, IsOpening}
use Rattle.search_workers.specs.hand.Hand.{Hand}
use Rattle.search_workers.specs.Hand.{pushed, taken, IsSameHand, all_pushed, all_taken}
use Rattle.search_workers.specs.declared.aims.Aims.{Aims}
use Rattle.search_workers.specs.declared.report.Report.{Report}
use Rattle.search_workers.specs.Tasks.{Turn, IsTurn, tasks_of, pieces_of, all_born, born}
use Rattle.search_workers.specs.Goals.{goals_of, goals_at, IsReached}
use Rattle.search_workers.specs.Best.{IsBestOf}
use Rattle.search_workers.specs.Report.{held, unpushed}
use Rattle.search_workers.specs.declared.job.Job.{Job}
use Rattle.planner.specs.declared.crew.Crew.{Crew}
use Rattle.search_workers.specs.Searching.{limit_of, IsBetter, IsFound}
use Rattle.planner.specs.Crew.{AreSameHands, AreTogether, Gathers, IsJob, IsReportOfJob, tasks_in, told}
use Rattle.search_workers.proofs.Searching.{first_is, then_is, interleave, one_only}

-- ---- lists

-- two lists, each in another order and in two parts, are together so too
pub both : {X : Type 0} (xs ys a b c d : List X) → IsPermutation xs (a ++ b) → IsPermutation ys (c ++ d) → IsPermutation (xs ++ ys) ((a ++ c) ++ (b ++ d))
both xs ys a b c d h k = IsPermutation-trans _ _ _ (IsPermutation-append xs (a ++ b) ys (c ++ d) h k) (interleave a b c d)

one_more : {X A : Type 0} (f : X → List A) (xs : List X) (x : X) → flat_map f (xs ++ x ∷ []) ≡ flat_map f xs ++ f x
one_more f xs x = flat_map-append f xs (x ∷ []) ∙ ap (λ l. flat_map f xs ++ l) (append-nil (f x))

module _ {J : Type 0} where
  same_snoc : (gs hs : List (Hand J)) (g h : Hand J) → AreSameHands gs hs → IsSameHand g h → AreSameHands (gs ++ g ∷ []) (hs ++ h ∷ [])
  same_snoc [] [] g h all one = (one, tt)
  same_snoc [] (y ∷ hs) g h all one = absurd all
  same_snoc (x ∷ gs) [] g h all one = absurd all
  same_snoc (x ∷ gs) (y ∷ hs) g h all one = (all.0, same_snoc gs hs g h all.1 one)

-- ---- the best plan

pub found_of : (i : Instance) (made : List ℕ) (best : Option FoundPlan) → IsBestOf i made best → IsFound i best
found_of i made None is = tt
found_of i made (Some best) is = is.0

above_best : (i : Instance) (made : List ℕ) (best : Option FoundPlan) → IsBestOf i made best → All (λ value. limit_of i best ≤ value) made
above_best i made None is = subst (All (λ value. limit_of i None ≤ value)) (sym is) (All-nil (λ value. limit_of i None ≤ value))
above_best i made (Some best) is = is.1

lower_all : (n m : ℕ) (xs : List ℕ) → m ≤ n → All (λ x. n ≤ x) xs → All (λ x. m ≤ x) xs
lower_all n m xs le h k d small = let p = h k d small in omega arith

-- ---- turns

-- turns of two, in either order
record AreBoth (i : Instance) (first second turns : List Turn) : Type 0 where
  tasks : IsPermutation (tasks_of first ++ tasks_of second) (tasks_of turns)
  gave : IsPermutation (all_born i first ++ all_born i second) (all_born i turns)
  each : All (IsTurn i) first → All (IsTurn i) second → All (IsTurn i) turns

in_order : (i : Instance) (first second : List Turn) → AreBoth i first second (first ++ second)
in_order i first second = record {
  tasks = then_is _ _ _ (IsPermutation-refl (tasks_of first ++ tasks_of second)) (sym (map-append (λ (t : Turn). t.task) first second));
  gave = then_is _ _ _ (IsPermutation-refl (all_born i first ++ all_born i second)) (sym (flat_map-append (born i) first second));
  each = All-append (IsTurn i) first second;
}

turned : (i : Instance) (first second : List Turn) → AreBoth i first second (second ++ first)
turned i first second = record {
  tasks = then_is _ _ _ (IsPermutation-append_comm (tasks_of first) (tasks_of second)) (sym (map-append (λ (t : Turn). t.task) second first));
  gave = then_is _ _ _ (IsPermutation-append_comm (all_born i first) (all_born i second)) (sym (flat_map-append (born i) second first));
  each = λ one other. All-append (IsTurn i) second first other one;
}

-- the goals of two lists of pieces, one behind the other
all_goals : (P : ℕ → Type 0) (first second all : List Piece) → all ≡ first ++ second → All P (goals_of first) → All P (goals_of second) → All P (goals_of all)
all_goals P first second all same one other =
    let grown = ap goals_of same ∙ flat_map-append (λ (p : Piece). goals_at p.node) first second in
    subst (All P) (sym grown) (All-append P (goals_of first) (goals_of second) one other)

-- ---- one more report

module _ {J : Type 0} (i : Instance) (aims : Aims) (word : Incumbent) (count : ℕ) (begun : List (Hand J)) (old new : Crew J) (job : Job J) (report : Report J) (w : IsInstance i) (g : Gathers i aims word count begun old) (j : IsJob word job)
    (r : IsReportOfJob i aims job report) (hands : new.hands.items ≡ old.hands.items ++ report.hand ∷ []) (pieces : AreTogether old.pieces.items report.pieces.items new.pieces.items)
    (tasks : new.tasks.items ≡ old.tasks.items ++ tasks_in report.spared.items report.rest) (better : IsBetter i old.best report.best new.best) (opening : IsOpening word new.watch) (out : out_count new.watch ≡ out_count old.watch - 1)
    (sees : seen new.watch ≡ seen old.watch ++ seen report.watch) (offered : offers new.watch ≡ offers old.watch ++ offers report.watch) where
  takes_more : (turns : List Turn) → AreBoth i g.turns r.account.turns turns → IsPermutation (all_taken new.hands.items) (all_taken (begun ++ job.hand ∷ []) ++ (tasks_of turns ++ (g.in_hand ++ held report.spared.items report.rest)))
  takes_more turns of_both =
      let a = r.account in
      let left_over = g.in_hand ++ held report.spared.items report.rest in
      let took = IsPermutation-trans _ _ _ a.takes (IsPermutation-append_right (taken job.hand) a.took (tasks_of a.turns ++ held report.spared.items report.rest) a.account.took) in
      let all = both (all_taken old.hands.items) (taken report.hand) (all_taken begun) (tasks_of g.turns ++ g.in_hand) (taken job.hand) (tasks_of a.turns ++ held report.spared.items report.rest) g.takes took in
      let inner = IsPermutation-append_right (all_taken begun ++ taken job.hand) _ _ (interleave (tasks_of g.turns) g.in_hand (tasks_of a.turns) (held report.spared.items report.rest)) in
      let worked = IsPermutation-append_right (all_taken begun ++ taken job.hand) _ _ (IsPermutation-append_left left_over _ _ of_both.tasks) in
      let left = ap all_taken hands ∙ one_more taken old.hands.items report.hand in
      let right = ap (λ (l : List Task). l ++ (tasks_of turns ++ left_over)) (one_more taken begun job.hand) in
      first_is _ _ _ left (then_is _ _ _ (IsPermutation-trans _ _ _ all (IsPermutation-trans _ _ _ inner worked)) (sym right))

  pushes_more : (turns : List Turn) → AreBoth i g.turns r.account.turns turns → IsPermutation (all_pushed new.hands.items ++ (g.kept_back ++ unpushed report.rest)) (all_pushed (begun ++ job.hand ∷ []) ++ all_born i turns)
  pushes_more turns of_both =
      let a = r.account in
      let U = unpushed report.rest in
      let own = first_is _ _ _ (ap (λ (l : List Task). l ++ U) a.pushes ∙ append_assoc (pushed job.hand) a.gave U)
      (IsPermutation-append_right (pushed job.hand) (a.gave ++ U) (all_born i a.turns) (IsPermutation-sym (all_born i a.turns) (a.gave ++ U) a.account.gave)) in
      let apart = interleave (all_pushed old.hands.items) (pushed report.hand) g.kept_back U in
      let all = both (all_pushed old.hands.items ++ g.kept_back) (pushed report.hand ++ U) (all_pushed begun) (all_born i g.turns) (pushed job.hand) (all_born i a.turns) g.pushes own in
      let gave = IsPermutation-append_right (all_pushed begun ++ pushed job.hand) _ _ of_both.gave in
      let left = ap (λ (l : List Task). l ++ (g.kept_back ++ U)) (ap all_pushed hands ∙ one_more pushed old.hands.items report.hand) in
      let right = ap (λ (l : List Task). l ++ all_born i turns) (one_more pushed begun job.hand) in
      first_is _ _ _ left (then_is _ _ _ (IsPermutation-trans _ _ _ apart (IsPermutation-trans _ _ _ all gave)) (sym right))

  offers_above : All (λ value. limit_of i new.best ≤ value) (offers new.watch)
  offers_above =
      let P : ℕ → Type 0 = λ value. limit_of i new.best ≤ value in
      let own : offers report.watch ≡ r.best.made = r.best.offered ∙ ap (λ (l : List ℕ). l ++ r.best.made) j.silent in
      let first = lower_all (limit_of i old.best) (limit_of i new.best) (offers old.watch) better.first g.best in
      let second = lower_all (limit_of i report.best) (limit_of i new.best) r.best.made better.second (above_best i r.best.made report.best r.best.best) in
      subst (All P) (sym offered) (All-append P (offers old.watch) (offers report.watch) first (subst (All P) (sym own) second))

  left_reached : (x : ℕ) → IsReached i aims old.watch x → IsReached i aims new.watch x
  left_reached x h = record {
    value = h.value;
    known = ⊎_elim (λ (e : Contains (seen old.watch) h.value). inl (subst (λ (l : List ℕ). Contains l h.value) (sym sees) (Contains-append_left (seen old.watch) (seen report.watch) h.value e)))
        (λ (e : Contains (offers old.watch) h.value). inr (subst (λ (l : List ℕ). Contains l h.value) (sym offered) (Contains-append_left (offers old.watch) (offers report.watch) h.value e))) h.known;
    at_most = h.at_most;
  }

  right_reached : (x : ℕ) → IsReached i aims report.watch x → IsReached i aims new.watch x
  right_reached x h = record {
    value = h.value;
    known = ⊎_elim (λ (e : Contains (seen report.watch) h.value). inl (subst (λ (l : List ℕ). Contains l h.value) (sym sees) (Contains-append_right (seen old.watch) (seen report.watch) h.value e)))
        (λ (e : Contains (offers report.watch) h.value). inr (subst (λ (l : List ℕ). Contains l h.value) (sym offered) (Contains-append_right (offers old.watch) (offers report.watch) h.value e))) h.known;
    at_most = h.at_most;
  }

  old_reached : All (IsReached i aims new.watch) (goals_of old.pieces.items)
  old_reached = All-weaker (IsReached i aims old.watch) (IsReached i aims new.watch) left_reached (goals_of old.pieces.items) g.reached

  own_reached : All (IsReached i aims new.watch) (goals_of report.pieces.items)
  own_reached = All-weaker (IsReached i aims report.watch) (IsReached i aims new.watch) right_reached (goals_of report.pieces.items) r.goals.reached

  gathers_turns : (turns : List Turn) → AreBoth i g.turns r.account.turns turns → pieces_of turns ≡ new.pieces.items → All (IsReached i aims new.watch) (goals_of new.pieces.items) → Gathers i aims word count (begun ++ job.hand ∷ []) new
  gathers_turns turns of_both made reached = record {
    same = subst (AreSameHands (begun ++ job.hand ∷ [])) (sym hands) (same_snoc begun old.hands.items job.hand report.hand g.same r.hand);
    turns = turns;
    each = of_both.each g.each r.account.each;
    pieces = made;
    in_hand = g.in_hand ++ held report.spared.items report.rest;
    kept_back = g.kept_back ++ unpushed report.rest;
    takes = takes_more turns of_both;
    pushes = pushes_more turns of_both;
    rest = first_is _ _ _ tasks (both old.tasks.items (tasks_in report.spared.items report.rest) g.in_hand g.kept_back (held report.spared.items report.rest) (unpushed report.rest) g.rest (IsPermutation-refl (tasks_in report.spared.items report.rest)));
    open_tasks = subst (All (IsTask i)) (sym tasks) (All-append (IsTask i) old.tasks.items (tasks_in report.spared.items report.rest) g.open_tasks (All-append (IsTask i) (held report.spared.items report.rest) (unpushed report.rest) r.account.one_of r.account.others_of));
    opening = opening;
    joined = omega (arith, out, g.joined, length-append begun (job.hand ∷ []));
    found = better.found;
    best = offers_above;
    reached = reached;
  }

  pub gathers_more : Gathers i aims word count (begun ++ job.hand ∷ []) new
  gathers_more = ⊎_elim
      (λ (same : new.pieces.items ≡ old.pieces.items ++ report.pieces.items).
      gathers_turns (g.turns ++ r.account.turns) (in_order i g.turns r.account.turns)
      (map-append (λ (t : Turn). t.piece) g.turns r.account.turns ∙ (λ k. g.pieces k ++ r.account.pieces k) ∙ sym same)
      (all_goals (IsReached i aims new.watch) old.pieces.items report.pieces.items new.pieces.items same old_reached own_reached))
      (λ (same : new.pieces.items ≡ report.pieces.items ++ old.pieces.items).
      gathers_turns (r.account.turns ++ g.turns) (turned i g.turns r.account.turns)
      (map-append (λ (t : Turn). t.piece) r.account.turns g.turns ∙ (λ k. r.account.pieces k ++ g.pieces k) ∙ sym same)
      (all_goals (IsReached i aims new.watch) report.pieces.items old.pieces.items new.pieces.items same own_reached old_reached))
      pieces

-- ---- nobody yet

pub told_above : (i : Instance) (found : Option FoundPlan) → All (λ value. limit_of i found ≤ value) (told [] found)
told_above i None = All-nil (λ value. limit_of i None ≤ value)
told_above i (Some best) = one_only (λ value. best.delay ≤ value) best.delay (omega arith)

pub nobody_yet : {J : Type 0} (i : Instance) (aims : Aims) (word : Incumbent) (count : ℕ) (crew : Crew J) → crew.hands.items ≡ [] → crew.pieces.items ≡ [] → crew.tasks.items ≡ [] → IsOpening word crew.watch → out_count crew.watch ≡ count → IsFound i crew.best
    → offers crew.watch ≡ told [] crew.best → Gathers i aims word count [] crew
nobody_yet {J} i aims word count crew hands pieces tasks opening out found offered =
    let none : List (Hand J) = [] in
    record {
      same = subst (AreSameHands none) (sym hands) tt;
      turns = [];
      each = All-nil (IsTurn i);
      pieces = sym pieces;
      in_hand = [];
      kept_back = [];
      takes = subst (λ (l : List (Hand J)). IsPermutation (all_taken l) []) (sym hands) (IsPermutation-refl []);
      pushes = subst (λ (l : List (Hand J)). IsPermutation (all_pushed l ++ []) []) (sym hands) (IsPermutation-refl []);
      rest = subst (λ (l : List Task). IsPermutation l []) (sym tasks) (IsPermutation-refl []);
      open_tasks = subst (All (IsTask i)) (sym tasks) (All-nil (IsTask i));
      opening = opening;
      joined = omega (arith, out);
      found = found;
      best = subst (All (λ value. limit_of i crew.best ≤ value)) (sym offered) (told_above i crew.best);
      reached = subst (λ (l : List Piece). All (IsReached i aims crew.watch) (goals_of l)) (sym pieces) (All-nil (IsReached i aims crew.watch));
    }
