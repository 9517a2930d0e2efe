-- What the tree of a part is at its end, and what is told of it.
use Rattle.std.proofs.Common.{◌≡◌, ℕ, ◌<◌, ◌≤◌, List, [], ◌∷◌, ◌++◌, Option, inl, inr, refl, sym, ap, subst, ◌∙◌, append_assoc, arith, length, get_or}
use Rattle.std.specs.List.Sorted.{IsPermutation}
use Rattle.std.proofs.lemmas.List.{map-append}
use Rattle.std.proofs.lemmas.List.Sorted.{IsPermutation-append_comm, IsPermutation-append_right, IsPermutation-sym, IsPermutation-trans}
use Rattle.ttp_model.specs.Instance.{Instance}
use Rattle.ttp_model.specs.Rules.{IsInstance}
use Rattle.tt_choice.specs.Branches.{root_choice}
use Rattle.certificate.specs.declared.node.Node.{Node}
use Rattle.certificate.specs.declared.node.Node.TheVariants as node
use Rattle.certificate.specs.Cert.{Cert}
use Rattle.certificate.specs.Trees.{preorder}
use Rattle.search_workers.specs.Account.{IsWholeTree}
use Rattle.planner.specs.Begun.{nodes_of}
use Rattle.used_decisions.specs.Branches.{branches}
use Rattle.search_workers.specs.Ends.{IsAnswerOf, IsFar}
use Rattle.search_workers.specs.Gathering.{AreShallow, HasGoal, HaveGoals, IsGathered}
use Rattle.search_workers.specs.Pieces.{AreRight}
use Rattle.tree_check.specs.Proofs.{Proves}
use Rattle.search_workers.specs.Searching.{aim_of, limit_of, IsFound, IsSearching, IsWorkedOut}
use Rattle.search_workers.specs.Task.{Task, root_task}
use Rattle.search_workers.specs.Trees.{IsTreeOf}
use Rattle.search_workers.specs.declared.aims.Aims.{Aims}
use Rattle.search_workers.specs.declared.search.Search.{Search}
use Rattle.search_workers.specs.declared.found.FoundPlan.{FoundPlan}
use Rattle.search_workers.specs.declared.outcome.Options.{Options}
use Rattle.search_workers.specs.declared.outcome.Outcome.{Outcome}
use Rattle.search_workers.specs.declared.outcome.Outcome.TheVariants.{Optimal, Infeasible, Stopped}
use Rattle.search_workers.specs.declared.outcome.Why.{Why}
use Rattle.search_workers.specs.declared.outcome.Why.TheVariants.{Budget, Memory, CalledOff, Gap, Part}
use Rattle.search_workers.specs.piece.Piece.{Piece}
use Rattle.search_workers.proofs.Proving.{gathered_proves}
use Rattle.search_workers.proofs.Searching.{in_any_order}
use Rattle.planner.specs.Answers.{from_low, in_answer, worked_goal}
use Rattle.planner.specs.Closing.{AreClosed, AreEnds}
use Rattle.planner.specs.PartAnswers.{IsPartCause, IsPartEnd, IsPartOutcome, IsPartReason, IsPartSearch, IsPartStopped, IsPartTree}
use Rattle.planner.specs.Searched.{HasLeafAt, IsEndAnswer}
use Rattle.planner.proofs.Ended.{best_above, proofs_higher}
use Rattle.planner.proofs.Ends.{are_leaves, closed_ends, ends_both, ends_right, ends_shallow, ends_whole, leaves_end}
use Rattle.planner.proofs.Searched.{all_worked, goal_is, limit_small, lower_goals, nodes_moved, within_budget}

-- ---- the tree

any_goal : (n : Node) → HasGoal 0 n
any_goal (node.Branch branch) = tt
any_goal (node.Leaf leaf) = omega arith

pub any_goals : (pieces : List Piece) → HaveGoals 0 pieces
any_goals pieces = λ k d lt. any_goal (get_or pieces k d).node

module _ (i : Instance) (aims : Aims) (search : Search) (others : List Piece) (top low : ℕ) (closed : List Piece)
    (is : IsPartSearch i aims search others) (are : AreClosed i search.tasks.items top closed low) where
  abbrev made : List Piece
  made = search.pieces.items

  abbrev tasks : List Task
  tasks = search.tasks.items

  searching : IsSearching i aims made (tasks ++ is.aside) search.best
  searching =
      in_any_order i aims (root_task ∷ []) made (is.aside ++ tasks) (tasks ++ is.aside) search.best (IsPermutation-append_comm is.aside tasks) is.searching

  ends : AreEnds i (tasks ++ is.aside) (closed ++ others)
  ends = ends_both i tasks is.aside closed others (closed_ends i tasks top closed low are) (leaves_end i is.low is.aside others is.stand)

  same : (made ++ closed) ++ others ≡ made ++ (closed ++ others)
  same = append_assoc made closed others

  pub part_shallow : AreShallow ((made ++ closed) ++ others)
  part_shallow = subst AreShallow (sym same) (ends_shallow i aims made (tasks ++ is.aside) search.best (closed ++ others) searching ends)

  pub part_whole : IsWholeTree ((made ++ closed) ++ others) []
  part_whole = subst (λ (ps : List Piece). IsWholeTree ps []) (sym same)
      (ends_whole i aims made (tasks ++ is.aside) search.best (closed ++ others) searching ends)

  part_right : AreRight i ((made ++ closed) ++ others)
  part_right = subst (AreRight i) (sym same) (ends_right i aims made (tasks ++ is.aside) search.best (closed ++ others) searching ends)

  module _ (options : Options) (cert : Cert) (gathered : IsGathered 0 ((made ++ closed) ++ others) cert) (within : length made ≤ options.budget) where
    abbrev best : Option FoundPlan
    best = search.best

    abbrev goal : ℕ
    goal = worked_goal i aims.gap best

    tree_is : IsTreeOf (made ++ (closed ++ others)) cert.tree
    tree_is = subst (λ (ps : List Piece). IsTreeOf ps cert.tree) same gathered.tree

    few : branches cert.tree ≤ length made
    few = within_budget made (closed ++ others) cert.tree tree_is (are_leaves i (tasks ++ is.aside) (closed ++ others) ends)

    own_goals : HaveGoals goal made
    own_goals = lower_goals (aim_of i aims best) goal (goal_is i aims best) made searching.goals

    abbrev rest : List Node
    rest = nodes_of (made ++ closed)

    stay : IsPermutation (preorder cert.tree) (rest ++ nodes_of others)
    stay = subst (IsPermutation (preorder cert.tree)) (map-append (λ (p : Piece). p.node) (made ++ closed) others)
        (IsPermutation-sym _ _ (nodes_moved ((made ++ closed) ++ others) cert.tree gathered.tree))

    reason_is : (why : Why) → IsPartEnd options.budget made why → IsPartReason i options aims.gap best (in_answer i cert) why
    reason_is Budget all = omega (arith, all_worked goal made (closed ++ others) cert.tree tree_is own_goals, all)
    reason_is Memory all = omega (arith, few, all)
    reason_is CalledOff all = omega (arith, few, all)
    reason_is Gap all = absurd all
    reason_is Part all = tt

    pub part_ends : (why : Why) → IsPartEnd options.budget made why → IsPartTree i options aims.gap why best (nodes_of others) (in_answer i cert)
    part_ends why end =
        let proved : Proves i cert = gathered_proves i ((made ++ closed) ++ others) 0 cert part_right (omega arith) gathered in
        record {
          proves = record { low = proved.low; tree = proved.tree };
          version = refl;
          within = omega (arith, few, within);
          rest = rest;
          stay = stay;
          reason = reason_is why end;
        }

-- why a part ends that ends as a whole search does
pub part_end : (budget : ℕ) (worked : List Piece) (why : Why) → IsWorkedOut budget worked why → IsPartEnd budget worked why
part_end budget worked Budget end = end
part_end budget worked Memory end = end
part_end budget worked CalledOff end = end
part_end budget worked Gap end = end
part_end budget worked Part end = absurd end

-- ---- what is told of it

same_part : (i : Instance) (options : Options) (gap : ℕ) (others : List Node) (cause why : Why) (bound low : ℕ) (found best : Option FoundPlan) (own cert : Cert)
    → cause ≡ why → bound ≡ low → found ≡ best → own ≡ cert → IsPartOutcome i options gap others (Stopped why low best cert)
    → IsPartOutcome i options gap others (Stopped cause bound found own)
same_part i options gap others cause why bound low found best own cert e f g h is =
    let same : Stopped why low best cert ≡ Stopped cause bound found own = cc in
    subst (IsPartOutcome i options gap others) same is

module _ (i : Instance) (options : Options) (gap : ℕ) (why : Why) (best : Option FoundPlan) (others : List Node) (cert : Cert) (w : IsInstance i)
    (found : IsFound i best) (is : IsPartTree i options gap why best others cert) (outcome : Outcome)
    (answer : IsEndAnswer i gap why best cert outcome) where
  abbrev told : ℕ
  told = answer.low

  at_most : told ≤ limit_of i best
  at_most = elim answer.lowest.reached [ inl same ↦ omega (arith, same) | inr less ↦ omega (arith, less.0) ]

  proves : Proves i (from_low told cert)
  proves = record {
    low = omega (arith, at_most, limit_small i best w found);
    tree = proofs_higher i cert.low told (root_choice i ∷ []) cert.tree is.proves.tree answer.lowest.bound;
  }

  by_reason : IsFar gap told best → (reason : Why) → IsPartReason i options gap best cert reason → IsPartCause i options gap told best (from_low told cert) reason
  by_reason far Budget all = (far, all)
  by_reason far Memory all = (far, all)
  by_reason far CalledOff all = (far, all)
  by_reason far Gap all = absurd all
  by_reason far Part all = far

  cause_is : IsPartCause i options gap told best (from_low told cert) answer.cause
  cause_is = elim answer.told [
    | inl near ↦ subst (IsPartCause i options gap told best (from_low told cert)) (sym near.1) near.0
    | inr far ↦ subst (IsPartCause i options gap told best (from_low told cert)) (sym far.1) (by_reason far.0 why is.reason)
  ]

  leaf_below : told < limit_of i best → HasLeafAt (preorder cert.tree) told
  leaf_below less = elim answer.lowest.reached [ inl same ↦ absurd (omega (arith, same, less)) | inr other ↦ other.1 ]

  stopped : told < limit_of i best → IsPartOutcome i options gap others (Stopped answer.cause told best (from_low told cert))
  stopped less =
      let leaf = leaf_below less in
      record {
        proves = proves;
        version = is.version;
        within = is.within;
        says = record {
          bound = refl;
          least = record { leaf = leaf.leaf; there = leaf.there; reached = leaf.reached; bound = answer.lowest.bound };
          most = omega (arith, less, limit_small i best w found);
          above = best_above i told best found less;
          rest = is.rest;
          stay = is.stay;
          cause = cause_is;
        };
      }

-- the answer that a part's tree makes
pub part_outcome : (i : Instance) (options : Options) (gap : ℕ) (why : Why) (best : Option FoundPlan) (others : List Node) (cert : Cert) (outcome : Outcome)
    → IsInstance i → IsFound i best → IsPartTree i options gap why best others cert → IsEndAnswer i gap why best cert outcome
    → IsPartOutcome i options gap others outcome
part_outcome i options gap why best others cert outcome w found is answer = of outcome answer.is
  where
    own : Proves i (from_low answer.low cert)
    own = proves i options gap why best others cert w found is outcome answer

    of : (other : Outcome) → IsAnswerOf i answer.cause best answer.low (from_low answer.low cert) other → IsPartOutcome i options gap others other
    of (Optimal plan ticks end) same =
        subst (λ (c : Cert). IsPartOutcome i options gap others (Optimal plan ticks c)) (sym same.2) (record {
          proves = own;
          version = is.version;
          within = is.within;
          says = (subst (IsFound i) same.0 found, same.1);
        })
    of (Infeasible end) same =
        subst (λ (c : Cert). IsPartOutcome i options gap others (Infeasible c)) (sym same.2) (record {
          proves = own;
          version = is.version;
          within = is.within;
          says = same.1 ∙ ap (limit_of i) same.0;
        })
    of (Stopped other bound best_told end) same =
        same_part i options gap others other answer.cause bound answer.low best_told best end (from_low answer.low cert) same.1 same.2 same.3 same.4
        (stopped i options gap why best others cert w found is outcome answer same.0)

-- Of the leaves that stay some may be told alone, in any order: the others are the part's own.
pub same_others : (i : Instance) (options : Options) (gap : ℕ) (others more spared : List Node) (outcome : Outcome) → IsPermutation others (more ++ spared)
    → IsPartOutcome i options gap others outcome → IsPartOutcome i options gap more outcome
same_others i options gap others more spared (Optimal plan ticks cert) moved is =
    record { proves = is.proves; version = is.version; within = is.within; says = is.says }
same_others i options gap others more spared (Infeasible cert) moved is =
    record { proves = is.proves; version = is.version; within = is.within; says = is.says }
same_others i options gap others more spared (Stopped why low best cert) moved is =
    let says : IsPartStopped i options gap others why low best cert = is.says in
    let turned = IsPermutation-trans _ _ _ moved (IsPermutation-append_comm more spared) in
    let stay = IsPermutation-trans _ _ _ says.stay (IsPermutation-append_right says.rest others (spared ++ more) turned) in
    record {
      proves = is.proves;
      version = is.version;
      within = is.within;
      says = record {
        bound = says.bound;
        least = says.least;
        most = says.most;
        above = says.above;
        rest = says.rest ++ spared;
        stay = subst (IsPermutation (preorder cert.tree)) (sym (append_assoc says.rest spared more)) stay;
        cause = says.cause;
      };
    }
