-- What work on a task makes of a search.
use Rattle.std.proofs.Common.{◌≡◌, ℕ, ◌+◌, ◌≤◌, List, [], ◌∷◌, ◌++◌, Option, None, Some, refl, sym, ap, subst, ◌∙◌, arith, append_assoc, take, drop, All, Contains}
use Rattle.std.specs.List.Sorted.{IsPermutation}
use Rattle.std.proofs.lemmas.Grind.{flat_map-append}
use Rattle.std.proofs.lemmas.List.{append-nil, map-append, take-append-drop}
use Rattle.std.proofs.lemmas.List.Elements.{All-head, All-tail, All-cons, All-nil, All-append, All-map, All-push, All-weaker, Contains-append_right}
use Rattle.std.proofs.lemmas.List.Sorted.{IsPermutation-refl, IsPermutation-sym, IsPermutation-trans, IsPermutation-append_left, IsPermutation-append_right, IsPermutation-append_comm, All-permutation}
use Rattle.ttp_model.specs.declared.plan.Plan.{Plan}
use Rattle.ttp_model.specs.declared.step.Leaf.{Leaf}
use Rattle.ttp_model.specs.Instance.{Instance}
use Rattle.ttp_model.specs.Rules.{IsInstance}
use Rattle.ttp_model.proofs.PlanNumbers.{delay_small}
use Rattle.certificate.specs.declared.node.Node.{Node}
use Rattle.certificate.specs.declared.node.Node.TheVariants as node
use Rattle.search_workers.specs.piece.Piece.{Piece}
use Rattle.search_workers.specs.Task.{Task, IsTask}
use Rattle.search_workers.specs.Best.{IsPlanFound}
use Rattle.search_workers.specs.declared.aims.Aims.{Aims}
use Rattle.search_workers.specs.declared.found.FoundPlan.{FoundPlan}
use Rattle.search_workers.specs.Goals.{goals_at}
use Rattle.search_workers.specs.Tasks.{Turn, IsTurn, tasks_of, pieces_of, born, all_born}
use Rattle.search_workers.specs.declared.search.Search.{Search}
use Rattle.search_workers.specs.Searching.{aim_of, limit_of, IsBetter, IsFound, IsSearchingOf, IsSomeSearch, SearchGoesOn}
use Rattle.search_workers.proofs.Goals.{goal_below, goal_rises}
use Rattle.search_trees.specs.Gathering.{HasGoal}

-- ---- lists

pub last_there : {X : Type 0} (xs : List X) (x : X) → Contains (xs ++ x ∷ []) x
last_there xs x = Contains-append_right xs (x ∷ []) x (0, omega arith, refl)

pub one_only : {X : Type 0} (P : X → Type 0) (x : X) → P x → All P (x ∷ [])
one_only P x is = All-cons P x [] is (All-nil P)

pub front_of : {X : Type 0} (P : X → Type 0) (xs : List X) (x : X) → All P (xs ++ x ∷ []) → All P xs
front_of P [] x all = All-nil P
front_of P (y ∷ xs) x all = All-cons P y xs (All-head P y (xs ++ x ∷ []) all) (front_of P xs x (All-tail P y (xs ++ x ∷ []) all))

pub first_is : {X : Type 0} (xs ys zs : List X) → xs ≡ ys → IsPermutation ys zs → IsPermutation xs zs
first_is xs ys zs e h = subst (λ l. IsPermutation l zs) (sym e) h

pub then_is : {X : Type 0} (xs ys zs : List X) → IsPermutation xs ys → ys ≡ zs → IsPermutation xs zs
then_is xs ys zs h e = subst (IsPermutation xs) e h

-- the last of the second list goes to the end of the first
moves_over : {X : Type 0} (a f k : List X) (t : X) → IsPermutation ((a ++ t ∷ []) ++ (f ++ k)) ((a ++ (f ++ t ∷ [])) ++ k)
moves_over a f k t =
    let first = append_assoc a (t ∷ []) (f ++ k) in
    let swapped = IsPermutation-append_right a _ _ (IsPermutation-append_left k _ _ (IsPermutation-append_comm (t ∷ []) f)) in
    first_is _ _ _ first (then_is _ _ _ swapped (sym (append_assoc a (f ++ t ∷ []) k)))

-- ---- a task is worked

-- a branch has no goal
pub branch_goal : (low : ℕ) (n : Node) → goals_at n ≡ [] → HasGoal low n
branch_goal low (node.Branch branch) none = tt
branch_goal low (node.Leaf leaf) none = absurd cc

pub leaf_goal : (low : ℕ) (n : Node) (leaf : Leaf) → n ≡ node.Leaf leaf → low ≤ leaf.goal → HasGoal low n
leaf_goal low n leaf is le = subst (HasGoal low) (sym is) le

pub weaker_goal : (limit lower : ℕ) → lower ≤ limit → (n : Node) → HasGoal limit n → HasGoal lower n
weaker_goal limit lower le (node.Branch branch) h = tt
weaker_goal limit lower le (node.Leaf leaf) h = omega (arith, h, le)

pub works : (i : Instance) (aims : Aims) (roots : List Task) (made : List Piece) (front : List Task) (turn : Turn) (old new : Option FoundPlan) (kids : List Task)
    → IsSearchingOf i aims roots made (front ++ turn.task ∷ []) old → IsTurn i turn → kids ≡ born i turn → All (IsTask i) kids
    → limit_of i new ≤ limit_of i old → HasGoal (aim_of i aims new) turn.piece.node → IsFound i new
    → IsSearchingOf i aims roots (made ++ turn.piece ∷ []) (front ++ kids) new
works i aims roots made front turn old new kids s is same each lower goal found =
    let grown = flat_map-append (born i) s.turns (turn ∷ []) ∙ ap (λ (l : List Task). all_born i s.turns ++ l) (append-nil (born i turn) ∙ sym same) in
    let tasks = map-append (λ (x : Turn). x.task) s.turns (turn ∷ []) in
    let account = IsPermutation-trans _ _ _ (moves_over (tasks_of s.turns) front kids turn.task) (IsPermutation-append_left kids (tasks_of s.turns ++ (front ++ turn.task ∷ [])) (roots ++ all_born i s.turns) s.account) in
    record {
      turns = s.turns ++ turn ∷ [];
      each = All-push (IsTurn i) s.turns turn s.each is;
      pieces = map-append (λ (x : Turn). x.piece) s.turns (turn ∷ []) ∙ ap (λ (l : List Piece). l ++ turn.piece ∷ []) s.pieces;
      account = first_is _ _ _ (ap (λ (l : List Task). l ++ (front ++ kids)) tasks) (then_is _ _ _ account (append_assoc roots (all_born i s.turns) kids ∙ ap (λ (l : List Task). roots ++ l) (sym grown)));
      open_tasks = All-append (IsTask i) front kids (front_of (IsTask i) front turn.task s.open_tasks) each;
      goals = All-push (λ (q : Piece). HasGoal (aim_of i aims new) q.node) made turn.piece
          (All-weaker (λ (q : Piece). HasGoal (aim_of i aims old) q.node) (λ (q : Piece). HasGoal (aim_of i aims new) q.node)
          (λ q. weaker_goal (aim_of i aims old) (aim_of i aims new) (goal_rises i aims (limit_of i new) (limit_of i old) lower) q.node) made s.goals) goal;
      found = found;
    }

-- a search works at most at the delay that it has to beat
pub aim_below : (i : Instance) (aims : Aims) (best : Option FoundPlan) → aim_of i aims best ≤ limit_of i best
aim_below i aims best = goal_below i aims (limit_of i best)

pub found_small : (i : Instance) (plan : Plan) (ticks : ℕ) → IsInstance i → IsPlanFound i plan ticks → ticks ≤ i.cluster.horizon
found_small i plan ticks w is = omega (arith, is.delay_is, delay_small i plan w is.settled.valid)

-- the open tasks may stand in any order
pub in_any_order : (i : Instance) (aims : Aims) (roots : List Task) (made : List Piece) (tasks others : List Task) (best : Option FoundPlan) → IsPermutation tasks others → IsSearchingOf i aims roots made tasks best → IsSearchingOf i aims roots made others best
in_any_order i aims roots made tasks others best moved s = record {
  turns = s.turns;
  each = s.each;
  pieces = s.pieces;
  account = IsPermutation-trans _ _ _ (IsPermutation-append_right (tasks_of s.turns) others tasks (IsPermutation-sym tasks others moved)) s.account;
  open_tasks = All-permutation (IsTask i) tasks others moved s.open_tasks;
  goals = s.goals;
  found = s.found;
}

-- also beside others that are left aside
pub beside_any_order : (i : Instance) (aims : Aims) (roots aside : List Task) (made : List Piece) (tasks others : List Task) (best : Option FoundPlan)
    → IsPermutation tasks others → IsSearchingOf i aims roots made (aside ++ tasks) best → IsSearchingOf i aims roots made (aside ++ others) best
beside_any_order i aims roots aside made tasks others best moved s =
    in_any_order i aims roots made (aside ++ tasks) (aside ++ others) best (IsPermutation-append_right aside tasks others moved) s

-- the second and the third of four lists change places
pub interleave : {X : Type 0} (a b c d : List X) → IsPermutation ((a ++ b) ++ (c ++ d)) ((a ++ c) ++ (b ++ d))
interleave a b c d =
    let swapped = first_is _ _ _ (sym (append_assoc b c d)) (then_is _ _ _ (IsPermutation-append_left d (b ++ c) (c ++ b) (IsPermutation-append_comm b c)) (append_assoc c b d)) in
    first_is _ _ _ (append_assoc a b (c ++ d)) (then_is _ _ _ (IsPermutation-append_right a (b ++ (c ++ d)) (c ++ (b ++ d)) swapped) (sym (append_assoc a c (b ++ d))))

-- ---- searches side by side

-- the tasks that it began with may stand in any order
pub from_any_order : (i : Instance) (aims : Aims) (roots others : List Task) (made : List Piece) (tasks : List Task) (best : Option FoundPlan) → IsPermutation roots others
    → IsSearchingOf i aims roots made tasks best → IsSearchingOf i aims others made tasks best
from_any_order i aims roots others made tasks best moved s = record {
  turns = s.turns;
  each = s.each;
  pieces = s.pieces;
  account = IsPermutation-trans _ _ _ s.account (IsPermutation-append_left (all_born i s.turns) roots others moved);
  open_tasks = s.open_tasks;
  goals = s.goals;
  found = s.found;
}

-- nothing is worked yet
pub begun : (i : Instance) (aims : Aims) (tasks : List Task) (best : Option FoundPlan) → All (IsTask i) tasks → IsFound i best → IsSearchingOf i aims tasks [] tasks best
begun i aims tasks best each found = record {
  turns = [];
  each = All-nil (IsTurn i);
  pieces = refl;
  account = then_is _ _ _ (IsPermutation-refl tasks) (sym (append-nil tasks));
  open_tasks = each;
  goals = All-nil (λ (q : Piece). HasGoal (aim_of i aims best) q.node);
  found = found;
}

front_all : {X : Type 0} (P : X → Type 0) (xs ys : List X) → All P (xs ++ ys) → All P xs
front_all P [] ys all = All-nil P
front_all P (x ∷ xs) ys all = All-cons P x xs (All-head P x (xs ++ ys) all) (front_all P xs ys (All-tail P x (xs ++ ys) all))

pub back_all : {X : Type 0} (P : X → Type 0) (xs ys : List X) → All P (xs ++ ys) → All P ys
back_all P [] ys all = all
back_all P (x ∷ xs) ys all = back_all P xs ys (All-tail P x (xs ++ ys) all)

-- the tasks that it began with are tasks of the instance
pub roots_are : (i : Instance) (aims : Aims) (roots : List Task) (made : List Piece) (tasks : List Task) (best : Option FoundPlan) → IsSearchingOf i aims roots made tasks best → All (IsTask i) roots
roots_are i aims roots made tasks best s =
    let worked = All-map (IsTask i) (λ (turn : Turn). turn.task) s.turns (All-weaker (IsTurn i) (λ (turn : Turn). IsTask i turn.task) (λ turn is. is.of) s.turns s.each) in
    let all = All-append (IsTask i) (tasks_of s.turns) tasks worked s.open_tasks in
    front_all (IsTask i) roots (all_born i s.turns) (All-permutation (IsTask i) (tasks_of s.turns ++ tasks) (roots ++ all_born i s.turns) s.account all)

-- what a search has to work are tasks of the instance
pub own_tasks : (i : Instance) (aims : Aims) (search : Search) → IsSomeSearch i aims search → All (IsTask i) search.tasks.items
own_tasks i aims search s = back_all (IsTask i) s.1 search.tasks.items s.2.open_tasks

-- a search that goes on is one still
pub goes_some : (i : Instance) (aims : Aims) (old new : Search) → IsSomeSearch i aims old → SearchGoesOn i aims old new → IsSomeSearch i aims new
goes_some i aims old new s goes = (s.0, s.1, goes s.0 s.1 s.2)

pub goes_then : (i : Instance) (aims : Aims) (old mid new : Search) → SearchGoesOn i aims old mid → SearchGoesOn i aims mid new → SearchGoesOn i aims old new
goes_then i aims old mid new first then = λ roots aside s. then roots aside (first roots aside s)

lower_goals : (i : Instance) (aims : Aims) (best old : Option FoundPlan) (made : List Piece) → limit_of i best ≤ limit_of i old
    → All (λ (q : Piece). HasGoal (aim_of i aims old) q.node) made → All (λ (q : Piece). HasGoal (aim_of i aims best) q.node) made
lower_goals i aims best old made le all = All-weaker (λ (q : Piece). HasGoal (aim_of i aims old) q.node) (λ (q : Piece). HasGoal (aim_of i aims best) q.node)
    (λ q. weaker_goal (aim_of i aims old) (aim_of i aims best) (goal_rises i aims (limit_of i best) (limit_of i old) le) q.node) made all

-- what the last tasks of a search came to takes their place
pub below : (i : Instance) (aims : Aims) (roots front more : List Task) (made others : List Piece) (tasks : List Task) (old new best : Option FoundPlan)
    → IsSearchingOf i aims roots made (front ++ more) old → IsSearchingOf i aims more others tasks new → IsBetter i old new best
    → IsSearchingOf i aims roots (made ++ others) (front ++ tasks) best
below i aims roots front more made others tasks old new best s r better =
    let A = tasks_of s.turns in
    let B = tasks_of r.turns in
    let M = all_born i s.turns in
    let N = all_born i r.turns in
    let mine = IsPermutation-append_left N (A ++ (front ++ more)) (roots ++ M) s.account in
    let theirs = IsPermutation-append_right (A ++ front) (B ++ tasks) (more ++ N) r.account in
    let same = append_assoc A front (more ++ N) ∙ ap (λ (l : List Task). A ++ l) (sym (append_assoc front more N)) ∙ sym (append_assoc A (front ++ more) N) in
    let last = then_is _ _ _ mine (append_assoc roots M N ∙ ap (λ (l : List Task). roots ++ l) (sym (flat_map-append (born i) s.turns r.turns))) in
    let all = IsPermutation-trans _ _ _ (interleave A B front tasks) (IsPermutation-trans _ _ _ (then_is _ _ _ theirs same) last) in
    record {
      turns = s.turns ++ r.turns;
      each = All-append (IsTurn i) s.turns r.turns s.each r.each;
      pieces = map-append (λ (x : Turn). x.piece) s.turns r.turns ∙ ap (λ (l : List Piece). l ++ pieces_of r.turns) s.pieces ∙ ap (λ (l : List Piece). made ++ l) r.pieces;
      account = first_is _ _ _ (ap (λ (l : List Task). l ++ (front ++ tasks)) (map-append (λ (x : Turn). x.task) s.turns r.turns)) all;
      open_tasks = All-append (IsTask i) front tasks (front_all (IsTask i) front more s.open_tasks) r.open_tasks;
      goals = All-append (λ (q : Piece). HasGoal (aim_of i aims best) q.node) made others (lower_goals i aims best old made better.first s.goals) (lower_goals i aims best new others better.second r.goals);
      found = better.found;
    }

-- ---- the best plan

pub none_below : (i : Instance) (found : Option FoundPlan) → IsInstance i → IsFound i found → limit_of i found ≤ i.cluster.horizon + 1
none_below i None w is = omega arith
none_below i (Some best) w is = let small = found_small i best.plan best.delay w is in omega (arith, small)

pub better_none : (i : Instance) (a b : Option FoundPlan) → IsInstance i → a ≡ None → IsFound i b → IsBetter i a b b
better_none i a b w lacks is =
    let low = none_below i b w is in
    record { found = is; first = subst (λ (x : Option FoundPlan). limit_of i b ≤ limit_of i x) (sym lacks) low; second = omega arith }

pub better_first : (i : Instance) (a b : Option FoundPlan) → IsInstance i → b ≡ None → IsFound i a → IsBetter i a b a
better_first i a b w lacks is =
    let low = none_below i a w is in
    record { found = is; first = omega arith; second = subst (λ (x : Option FoundPlan). limit_of i a ≤ limit_of i x) (sym lacks) low }

-- ---- a round

-- a list whose first elements stay and whose others are taken out
pub cut_at : {X : Type 0} (n : ℕ) (old all new out : List X) → IsPermutation old all → new ≡ take n all → out ≡ drop n all → IsPermutation old (new ++ out)
cut_at n old all new out moved front back = then_is _ _ _ moved (sym (ap (λ l. l ++ out) front ∙ ap (λ l. take n all ++ l) back ∙ take-append-drop n all))
