-- How a propagation comes to the decisions of a task, and what it says of the task's choice then.
use Rattle.std.proofs.Common.{◌≡◌, ℕ, ◌<◌, ◌≤◌, List, [], length, slice_index_or, take, IsTrue, IsFalse, arith, refl, sym, ap, subst, ◌∙◌}
use Rattle.std.proofs.lemmas.List.{length-take, length-take-le, take_all}
use Rattle.ttp_model.specs.declared.step.Leaf.{Leaf}
use Rattle.ttp_model.specs.Instance.{Instance}
use Rattle.tt_choice.specs.declared.decision.Decision.{Decision}
use Rattle.tt_choice.specs.Choice.{Choice}
use Rattle.tt_choice.specs.Branches.{root_choice}
use Rattle.tt_choice.specs.Decisions.{IsOpenDecision, AreOpenDecisions, chosen}
use Rattle.tt_infer.specs.Facts.{Facts}
use Rattle.tt_infer.specs.Leaves.{ClosesSharply}
use Rattle.search_trees.specs.Propagator.{Propagator, IsPropagation, IsLog, IsStarted}
use Rattle.search_trees.specs.Trials.{IsLeft, ClosesAt}
use Rattle.branch_tree.specs.Workbench.{ComesTo, IsAt}
use Rattle.search_trees.proofs.Chosen.{open_at}

-- the first of a list are no more than all
pub no_more : (xs ds : List Decision) → xs ≡ take (length xs) ds → length xs ≤ length ds
no_more xs ds is = omega (arith, ap length is, length-take (length xs) ds)

-- a propagation that has made no decision is at its goal, and has made the first of any
pub started_at : (i : Instance) (goal : ℕ) (p : Propagator) → IsStarted i goal p → IsAt i goal p
started_at i goal p is = record { instance = is.instance; goal_is = is.goal_is }

pub none_made : (ds : List Decision) (p : Propagator) → p.decisions ≡ [] → p.decisions ≡ take (length p.decisions) ds
none_made ds p none = subst (λ (made : List Decision). made ≡ take (length made) ds) (sym none) refl

-- the next decision is open
pub next_open : (i : Instance) (p : Propagator) (ds : List Decision) (k : ℕ) (d : Decision) → IsPropagation p → p.instance ≡ i
    → AreOpenDecisions i (root_choice i) ds → p.decisions ≡ take k ds → k < length ds
    → IsOpenDecision p.instance p.current.facts.choice (slice_index_or ds k d)
next_open i p ds k d is same are made inside =
    let here : AreOpenDecisions p.instance (root_choice p.instance) ds = subst (λ (j : Instance). AreOpenDecisions j (root_choice j) ds) (sym same) are in
    let choice : p.current.facts.choice ≡ chosen p.instance (take k ds) = ap (λ (s : Facts). s.choice) is.current.facts ∙ ap (chosen p.instance) made in
    subst (λ (c : Choice). IsOpenDecision p.instance c (slice_index_or ds k d)) (sym choice) (open_at p.instance (root_choice p.instance) ds k d here inside)

-- all are made, or no plan is left
pub comes_to : (i : Instance) (goal : ℕ) (ds : List Decision) (p : Propagator) (k : ℕ) → p.instance ≡ i → p.goal ≡ goal → p.decisions ≡ take k ds
    → k ≤ length ds → (k < length ds → IsTrue p.current.facts.known.closed) → ComesTo i goal ds p
comes_to i goal ds p k same goal_is made within closed =
    let many : length p.decisions ≡ k = ap length made ∙ length-take-le k ds within in
    record {
      at = record { instance = same; goal_is = goal_is };
      first = made ∙ ap (λ (n : ℕ). take n ds) (sym many);
      as_far = λ less. closed (omega (arith, less, many));
    }

-- where all decisions are made
module _ (i : Instance) (goal : ℕ) (ds : List Decision) (p : Propagator) (comes : ComesTo i goal ds p) (is : IsPropagation p)
    (whole : length ds ≤ length p.decisions) where
  here : IsLog i (chosen i ds) goal p.current
  here =
      let all : p.decisions ≡ ds = comes.first ∙ take_all (length p.decisions) ds whole in
      subst (λ (g : ℕ). IsLog i (chosen i ds) g p.current) comes.at.goal_is
      (subst (λ (j : Instance). IsLog j (chosen j ds) p.goal p.current) comes.at.instance
      (subst (λ (xs : List Decision). IsLog p.instance (chosen p.instance xs) p.goal p.current) all is.current))

  -- they led to its choice
  pub choice_at : p.current.facts.choice ≡ chosen i ds
  choice_at = ap (λ (s : Facts). s.choice) here.facts

  pub left_at : IsFalse p.current.facts.known.closed → IsLeft i p.current.facts.choice goal p.current.facts
  left_at left =
      let leaves : IsLeft i (chosen i ds) goal p.current.facts = record {
        of = ap (λ (s : Facts). s.instance) here.facts;
        above = here.above left;
        finds = λ all. here.finds all left;
      } in
      subst (λ (c : Choice). IsLeft i c goal p.current.facts) (sym (ap (λ (s : Facts). s.choice) here.facts)) leaves

  pub closes_at : (leaf : Leaf) → ClosesSharply p.instance p.current.facts.choice leaf → leaf.goal ≡ p.goal → ClosesAt i (chosen i ds) goal leaf
  closes_at leaf closes goal_is = record {
    at = goal_is ∙ comes.at.goal_is;
    closes = subst (λ (c : Choice). ClosesSharply i c leaf) (ap (λ (s : Facts). s.choice) here.facts)
        (subst (λ (j : Instance). ClosesSharply j p.current.facts.choice leaf) comes.at.instance closes);
  }
