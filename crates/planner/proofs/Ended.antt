-- What the tree of a search at its end makes of the best plan.
use Rattle.std.proofs.Common.{◌≡◌, ℕ, ◌+◌, ◌<◌, ◌≤◌, List, [], ◌∷◌, ◌++◌, inl, inr, Option, None, Some, refl, sym, ap, subst, ◌∙◌, arith, All, IfSome, min}
use Rattle.std.proofs.lemmas.List.Elements.{All-head, All-tail, All-cons, All-nil, All-append, All-contains, All-weaker}
use Rattle.search_workers.specs.declared.found.FoundPlan.{FoundPlan}
use Rattle.ttp_model.specs.Instance.{Instance}
use Rattle.ttp_model.specs.Chains.{IsPathBound}
use Rattle.ttp_model.specs.Rules.{IsInstance}
use Rattle.tt_choice.specs.Choice.{Choice}
use Rattle.tt_choice.specs.Branches.{root_choice}
use Rattle.certificate.specs.declared.node.Node.{Node}
use Rattle.certificate.specs.declared.node.Node.TheVariants as node
use Rattle.certificate.specs.Trees.{Trees, none, grow, preorder}
use Rattle.certificate.specs.Cert.{Cert}
use Rattle.certificate.specs.Versions.{answer_version}
use Rattle.tree_check.specs.Proofs.{choices_below, Suits, AreProofs, Proves}
use Rattle.search_workers.specs.Gathering.{HasGoal}
use Rattle.search_workers.specs.declared.aims.Aims.{Aims}
use Rattle.search_workers.proofs.Goals.{goal_near, goal_past}
use Rattle.search_workers.specs.declared.outcome.Options.{Options}
use Rattle.search_workers.specs.declared.outcome.Outcome.{Outcome}
use Rattle.search_workers.specs.declared.outcome.Outcome.TheVariants.{Optimal, Infeasible, Stopped}
use Rattle.search_workers.specs.declared.outcome.Why.{Why}
use Rattle.search_workers.specs.declared.outcome.Why.TheVariants.{Budget, Memory, CalledOff, Gap, Part}
use Rattle.search_workers.specs.Searching.{aim_of, limit_of, IsFound}
use Rattle.search_workers.specs.Ends.{IsAnswerOf, IsCauseTold, IsFar}
use Rattle.search_workers.proofs.Searching.{aim_below, weaker_goal}
use Rattle.used_decisions.specs.Branches.{branches}
use Rattle.planner.specs.Answers.{from_low, IsBestAbove, IsCause, IsOutcome}
use Rattle.planner.specs.Searched.{AreAims, IsEndAnswer, IsEndTree, IsExhausted, IsLowest, IsReason, HasLeafAt}
use Rattle.planner.proofs.Searched.{limit_small}

-- ---- goals of a tree's leaves

front_all : {X : Type 0} (P : X → Type 0) (xs ys : List X) → All P (xs ++ ys) → All P xs
front_all P [] ys all = All-nil P
front_all P (x ∷ xs) ys all = All-cons P x xs (All-head P x (xs ++ ys) all) (front_all P xs ys (All-tail P x (xs ++ ys) all))

back_all : {X : Type 0} (P : X → Type 0) (xs ys : List X) → All P (xs ++ ys) → All P ys
back_all P [] ys all = all
back_all P (x ∷ xs) ys all = back_all P xs ys (All-tail P x (xs ++ ys) all)

own_goal : (i : Instance) (low : ℕ) (c : Choice) (n : Node) → Suits i low c n → HasGoal low n
own_goal i low c (node.Branch branch) is = tt
own_goal i low c (node.Leaf leaf) is = is.goal

-- no leaf of trees that prove a bound is below it
pub proofs_goals : (i : Instance) (low : ℕ) (cs : List Choice) (trees : Trees) → AreProofs i low cs trees → All (HasGoal low) (preorder trees)
proofs_goals i low [] none are = All-nil (HasGoal low)
proofs_goals i low [] (grow n below beside) are = absurd are
proofs_goals i low (c ∷ cs) none are = absurd are
proofs_goals i low (c ∷ cs) (grow n below beside) are =
    All-cons (HasGoal low) n (preorder below ++ preorder beside) (own_goal i low c n are.0)
    (All-append (HasGoal low) (preorder below) (preorder beside) (proofs_goals i low (choices_below i c n) below are.1.0) (proofs_goals i low cs beside are.1.1))

suits_higher : (i : Instance) (low high : ℕ) (c : Choice) (n : Node) → Suits i low c n → HasGoal high n → Suits i high c n
suits_higher i low high c (node.Branch branch) is goal = is
suits_higher i low high c (node.Leaf leaf) is goal = record { goal = goal; closes = is.closes }

-- trees prove each bound that none of their leaves is below
pub proofs_higher : (i : Instance) (low high : ℕ) (cs : List Choice) (trees : Trees) → AreProofs i low cs trees → All (HasGoal high) (preorder trees)
    → AreProofs i high cs trees
proofs_higher i low high [] none are goals = tt
proofs_higher i low high [] (grow n below beside) are goals = absurd are
proofs_higher i low high (c ∷ cs) none are goals = absurd are
proofs_higher i low high (c ∷ cs) (grow n below beside) are goals =
    let rest = All-tail (HasGoal high) n (preorder below ++ preorder beside) goals in (
      suits_higher i low high c n are.0 (All-head (HasGoal high) n (preorder below ++ preorder beside) goals),
      (
        proofs_higher i low high (choices_below i c n) below are.1.0 (front_all (HasGoal high) (preorder below) (preorder beside) rest),
        proofs_higher i low high cs beside are.1.1 (back_all (HasGoal high) (preorder below) (preorder beside) rest),
      ),
    )

-- ---- the bound that is told

pub leaf_goal : (low : ℕ) (nodes : List Node) (at : ℕ) → All (HasGoal low) nodes → HasLeafAt nodes at → low ≤ at
leaf_goal low nodes at all leaf = omega (arith, All-contains (HasGoal low) nodes (node.Leaf leaf.leaf) all leaf.there, leaf.reached)

-- where nothing of the tree is left, nor the bound at the limit, the best plan is within the gap
near_enough : (i : Instance) (gap own low : ℕ) (best : Option FoundPlan) → IsExhausted i gap best own → own ≤ low → low < limit_of i best → ¬ IsFar gap low best
near_enough i gap own low None left le less far = absurd (omega (arith, left, le, less))
near_enough i gap own low (Some best) left le less far = absurd (omega (arith, left, le, far))

pub best_above : (i : Instance) (low : ℕ) (best : Option FoundPlan) → IsFound i best → low < limit_of i best → IsBestAbove i low best
best_above i low None found less = tt
best_above i low (Some best) found less = (found, less)

same_stopped : (i : Instance) (options : Options) (gap : ℕ) (cause why : Why) (bound low : ℕ) (found best : Option FoundPlan) (own cert : Cert)
    → cause ≡ why → bound ≡ low → found ≡ best → own ≡ cert → IsOutcome i options gap (Stopped why low best cert) → IsOutcome i options gap (Stopped cause bound found own)
same_stopped i options gap cause why bound low found best own cert e f g h is =
    let same : Stopped why low best cert ≡ Stopped cause bound found own = cc in
    subst (IsOutcome i options gap) same is

module _ (i : Instance) (options : Options) (gap : ℕ) (why cause : Why) (best : Option FoundPlan) (low : ℕ) (cert : Cert) (w : IsInstance i) (found : IsFound i best)
    (is : IsEndTree i options gap why best cert) (lowest : IsLowest (limit_of i best) (preorder cert.tree) low) (told : IsCauseTold why gap low best cause) where
  abbrev limit : ℕ
  limit = limit_of i best

  at_most : low ≤ limit
  at_most = elim lowest.reached [ inl same ↦ omega (arith, same) | inr less ↦ omega (arith, less.0) ]

  at_least : cert.low ≤ low
  at_least = elim lowest.reached [
    | inl same ↦ omega (arith, same, is.most)
    | inr less ↦ leaf_goal cert.low (preorder cert.tree) low (proofs_goals i cert.low (root_choice i ∷ []) cert.tree is.proves.tree) less.1
  ]

  path_below : (bound : ℕ) → IsPathBound i bound → min bound limit ≤ low
  path_below bound path = elim lowest.reached [
    | inl same ↦ omega (arith, same)
    | inr less ↦ leaf_goal (min bound limit) (preorder cert.tree) low (is.path bound path) less.1
  ]

  proves : Proves i (from_low low cert)
  proves = record {
    low = omega (arith, at_most, limit_small i best w found);
    tree = proofs_higher i cert.low low (root_choice i ∷ []) cert.tree is.proves.tree lowest.bound;
  }

  leaf_below : low < limit → HasLeafAt (preorder cert.tree) low
  leaf_below less = elim lowest.reached [ inl same ↦ absurd (omega (arith, same, less)) | inr other ↦ other.1 ]

  by_reason : low < limit → IsFar gap low best → (reason : Why) → IsReason i options gap best cert reason → IsCause i options gap low best (from_low low cert) reason
  by_reason less far Budget all = (far, all)
  by_reason less far Memory all = (far, all)
  by_reason less far CalledOff all = (far, all)
  by_reason less far Gap all = absurd (near_enough i gap cert.low low best all at_least less far)
  by_reason less far Part all = absurd all

  cause_is : low < limit → IsCause i options gap low best (from_low low cert) cause
  cause_is less = elim told [
    | inl near ↦ subst (IsCause i options gap low best (from_low low cert)) (sym near.1) near.0
    | inr far ↦ subst (IsCause i options gap low best (from_low low cert)) (sym far.1) (by_reason less far.0 why is.reason)
  ]

  stopped : low < limit → IsOutcome i options gap (Stopped cause low best (from_low low cert))
  stopped less =
      let leaf = leaf_below less in
      record {
        proves = proves;
        version = is.version;
        within = is.within;
        says = record {
          bound = refl;
          least = record { leaf = leaf.leaf; there = leaf.there; reached = leaf.reached; bound = lowest.bound };
          most = omega (arith, less, limit_small i best w found);
          path = path_below;
          above = best_above i low best found less;
          cause = cause_is less;
        };
      }

  pub end_answers : (outcome : Outcome) → IsAnswerOf i cause best low (from_low low cert) outcome → IsOutcome i options gap outcome
  end_answers (Optimal plan ticks own) answer =
      subst (λ (c : Cert). IsOutcome i options gap (Optimal plan ticks c)) (sym answer.2) (record {
        proves = proves;
        version = is.version;
        within = is.within;
        says = (subst (IsFound i) answer.0 found, answer.1);
      })
  end_answers (Infeasible own) answer =
      subst (λ (c : Cert). IsOutcome i options gap (Infeasible c)) (sym answer.2) (record {
        proves = proves;
        version = is.version;
        within = is.within;
        says = answer.1 ∙ ap (limit_of i) answer.0;
      })
  end_answers (Stopped other bound best_told own) answer =
      same_stopped i options gap other cause bound low best_told best own (from_low low cert) answer.1 answer.2 answer.3 answer.4 (stopped answer.0)

pub end_outcome : (i : Instance) (options : Options) (gap : ℕ) (why : Why) (best : Option FoundPlan) (cert : Cert) (outcome : Outcome) → IsInstance i
    → IsFound i best → IsEndTree i options gap why best cert → IsEndAnswer i gap why best cert outcome → IsOutcome i options gap outcome
end_outcome i options gap why best cert outcome w found tree answer =
    end_answers i options gap why answer.cause best answer.low cert w found tree answer.lowest answer.told outcome answer.is

-- ---- a tree without what needn't be worked

exhausted : (i : Instance) (aims : Aims) (low : ℕ) (best : Option FoundPlan) → low ≡ aim_of i aims best → IsExhausted i aims.gap best low
exhausted i aims low None same = omega (arith, same, goal_past i aims (i.cluster.horizon + 1) (omega arith))
exhausted i aims low (Some best) same = omega (arith, same, goal_near i aims best.delay)

-- a proof of the goal of a search, in the version of the instance's answers, is its tree at the end
pub lean_ends : (i : Instance) (options : Options) (aims : Aims) (best : Option FoundPlan) (cert : Cert) → IsInstance i → AreAims i aims
    → IsFound i best → Proves i cert → cert.version ≡ answer_version i → cert.low ≡ aim_of i aims best → branches cert.tree ≤ options.budget
    → IsEndTree i options aims.gap Gap best cert
lean_ends i options aims best cert w right found proves version same few = record {
  proves = proves;
  version = version;
  within = few;
  most = omega (arith, same, aim_below i aims best);
  path = λ bound path.
      All-weaker (HasGoal cert.low) (HasGoal (min bound (limit_of i best)))
      (λ n. weaker_goal cert.low (min bound (limit_of i best)) (omega (arith, same, right.path bound (limit_of i best) path (limit_small i best w found))) n)
      (preorder cert.tree) (proofs_goals i cert.low (root_choice i ∷ []) cert.tree proves.tree);
  reason = exhausted i aims cert.low best same;
}

-- and so is one that may have been found, of a tree with so many pieces
pub lean_found : (i : Instance) (options : Options) (aims : Aims) (best : Option FoundPlan) (low most : ℕ) (found : Option Cert) → IsInstance i
    → AreAims i aims → IsFound i best → low ≡ aim_of i aims best → most ≤ options.budget → IfSome found (Proves i)
    → IfSome found (λ cert. cert.version ≡ answer_version i) → IfSome found (λ cert. cert.low ≡ low) → IfSome found (λ cert. branches cert.tree ≤ most)
    → IfSome found (IsEndTree i options aims.gap Gap best)
lean_found i options aims best low most None w right is same within proves version bound few = tt
lean_found i options aims best low most (Some cert) w right is same within proves version bound few =
    lean_ends i options aims best cert w right is proves version (bound ∙ same) (omega (arith, few, within))
