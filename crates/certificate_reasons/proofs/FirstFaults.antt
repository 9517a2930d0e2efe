-- The node that is the first at fault, found by going through a tree: its choice and its line are at hand there.
use Rattle.std.proofs.Common.{◌≡◌, ◌∙◌, ℕ, zero, suc, ◌+◌, ◌-◌, ◌<◌, ◌≤◌, ◌⊎◌, List, [], ◌∷◌, ◌++◌, inl, inr, ap, arith, length, subst, sym}
use Rattle.std.proofs.lemmas.List.{length-append}
use Rattle.ttp_model.specs.declared.step.Step.{Step}
use Rattle.ttp_model.specs.Instance.{Instance}
use Rattle.tt_choice.specs.Choice.{Choice}
use Rattle.certificate.specs.declared.node.Node.{Node}
use Rattle.certificate.specs.declared.node.Node.TheVariants as node
use Rattle.certificate.specs.Lines.{lines, node_lines}
use Rattle.certificate.specs.Trees.{Trees, first_trees, grow, none, trees_after}
use Rattle.certificate.proofs.TreeLists.{lines-grow}
use Rattle.tree_check.specs.declared.fault.NodeFault.{NodeFault}
use Rattle.tree_check.specs.declared.fault.NodeFault.TheVariants.{ChildCount, LowGoal, NotClosed, NotOpen, RefusedStep}
use Rattle.tree_check.specs.Faults.{IsFirstTreeFault, IsNodeFault, IsRefusedAt}
use Rattle.tree_check.specs.Proofs.{AreProofs, Suits, choices_below}
use Rattle.certificate_reasons.specs.Certs.{IsFirstAtFault}

-- any node
abbrev pub Any : Choice → Node → ℕ → Type 0
Any c node line = Unit {0}

-- the first fault is of some node
pub any_first : (i : Instance) (low : ℕ) (cs : List Choice) (trees : Trees) (line at : ℕ) (fault : NodeFault) → IsFirstTreeFault i low cs trees line at fault
    → IsFirstAtFault Any i low cs trees line at fault
any_first i low [] trees line at fault is = absurd is
any_first i low (c ∷ cs) none line at fault is = absurd is
any_first i low (c ∷ cs) (grow node below beside) line at fault (inl is) = inl (is, tt)
any_first i low (c ∷ cs) (grow node below beside) line at fault (inr (suits, inl is)) =
    inr (suits, inl (any_first i low (choices_below i c node) below (line + node_lines node) at fault is))
any_first i low (c ∷ cs) (grow node below beside) line at fault (inr (suits, inr (proofs, is))) =
    inr (suits, inr (proofs, any_first i low cs beside (line + node_lines node + lines below) at fault is))

-- ---- where it is told

-- a step that is refused is one of the steps
place_inside : (i : Instance) (c : Choice) (goal : ℕ) (steps : List Step) (place : ℕ) → IsRefusedAt i c goal steps place → place < length steps
place_inside i c goal steps place refused =
    let size = ap (λ (xs : List Step). length xs) refused.steps_are ∙ length-append refused.before (refused.step ∷ refused.after) in
    omega (arith, size, refused.place_is)

-- the fault of a node is told in one of its lines
pub fault_inside : (i : Instance) (low : ℕ) (c : Choice) (node : Node) (line at : ℕ) (fault : NodeFault) → IsNodeFault i low c node line at fault
    → (line ≤ at) × (at < line + node_lines node)
fault_inside i low c (node.Branch branch) line at fault (there, wrong) = (omega (arith, there), omega (arith, there))
fault_inside i low c (node.Leaf leaf) line at ChildCount is = absurd is
fault_inside i low c (node.Leaf leaf) line at NotOpen is = absurd is
fault_inside i low c (node.Leaf leaf) line at LowGoal (there, wrong) = (omega (arith, there), omega (arith, there))
fault_inside i low c (node.Leaf leaf) line at RefusedStep (goal, (place, there, refused)) =
    let inside = place_inside i c leaf.goal leaf.steps place refused in
    (omega (arith, there), omega (arith, there, inside))
fault_inside i low c (node.Leaf leaf) line at NotClosed (there, wrong) = (omega (arith, there), omega (arith, there))

-- which is as far behind the node's own, wherever that stands
pub fault_moved : (i : Instance) (low : ℕ) (c : Choice) (node : Node) (line at : ℕ) (fault : NodeFault) → IsNodeFault i low c node line at fault
    → IsNodeFault i low c node 0 (at - line) fault
fault_moved i low c (node.Branch branch) line at fault (there, wrong) = (omega (arith, there), wrong)
fault_moved i low c (node.Leaf leaf) line at ChildCount is = absurd is
fault_moved i low c (node.Leaf leaf) line at NotOpen is = absurd is
fault_moved i low c (node.Leaf leaf) line at LowGoal (there, wrong) = (omega (arith, there), wrong)
fault_moved i low c (node.Leaf leaf) line at RefusedStep (goal, (place, there, refused)) = (goal, (place, omega (arith, there), refused))
fault_moved i low c (node.Leaf leaf) line at NotClosed (there, wrong) = (omega (arith, there), wrong)

module _ (Is : Choice → Node → ℕ → Type 0) (i : Instance) (low at : ℕ) (fault : NodeFault) where
  -- the first fault of trees is told in one of their lines
  pub first_inside : (cs : List Choice) (trees : Trees) (line : ℕ) → IsFirstAtFault Is i low cs trees line at fault
      → (line ≤ at) × (at < line + lines trees)
  first_inside [] trees line is = absurd is
  first_inside (c ∷ cs) none line is = absurd is
  first_inside (c ∷ cs) (grow node below beside) line (inl is) =
      let own = fault_inside i low c node line at fault is.0 in
      let all = lines-grow node below beside in
      (own.0, omega (arith, own.1, all))
  first_inside (c ∷ cs) (grow node below beside) line (inr (suits, inl is)) =
      let lower = first_inside (choices_below i c node) below (line + node_lines node) is in
      let all = lines-grow node below beside in
      (omega (arith, lower.0), omega (arith, lower.1, all))
  first_inside (c ∷ cs) (grow node below beside) line (inr (suits, inr (proofs, is))) =
      let aside = first_inside cs beside (line + node_lines node + lines below) is in
      let all = lines-grow node below beside in
      (omega (arith, aside.0), omega (arith, aside.1, all))

  -- ---- trees side by side, the first so many and those behind them

  pub first_joined : (cs others : List Choice) (k : ℕ) (trees : Trees) (line : ℕ) → IsFirstAtFault Is i low cs (first_trees k trees) line at fault
      → IsFirstAtFault Is i low (cs ++ others) trees line at fault
  unfolding first_trees
  first_joined [] others k trees line is = absurd is
  first_joined (c ∷ cs) others zero trees line is = absurd is
  first_joined (c ∷ cs) others (suc k) none line is = absurd is
  first_joined (c ∷ cs) others (suc k) (grow node below beside) line (inl is) = inl is
  first_joined (c ∷ cs) others (suc k) (grow node below beside) line (inr (suits, inl is)) = inr (suits, inl is)
  first_joined (c ∷ cs) others (suc k) (grow node below beside) line (inr (suits, inr (proofs, is))) =
      inr (suits, inr (proofs, first_joined cs others k beside (line + node_lines node + lines below) is))

  -- the line behind the first trees
  line_behind : (node : Node) (below beside : Trees) (k line : ℕ)
      → line + node_lines node + lines below + lines (first_trees k beside) ≡ line + lines (grow node below (first_trees k beside))
  line_behind node below beside k line =
      let all = lines-grow node below (first_trees k beside) in
      omega (arith, all)

  pub behind_joined : (cs others : List Choice) (k : ℕ) (trees : Trees) (line : ℕ) → AreProofs i low cs (first_trees k trees)
      → IsFirstAtFault Is i low others (trees_after k trees) (line + lines (first_trees k trees)) at fault
      → IsFirstAtFault Is i low (cs ++ others) trees line at fault
  unfolding first_trees trees_after
  behind_joined [] others zero trees line proofs is =
      subst (λ (l : ℕ). IsFirstAtFault Is i low others trees l at fault) (omega arith) is
  behind_joined (c ∷ cs) others zero trees line proofs is = absurd proofs
  behind_joined [] others (suc k) none line proofs is =
      subst (λ (l : ℕ). IsFirstAtFault Is i low others none l at fault) (omega arith) is
  behind_joined (c ∷ cs) others (suc k) none line proofs is = absurd proofs
  behind_joined [] others (suc k) (grow node below beside) line proofs is = absurd proofs
  behind_joined (c ∷ cs) others (suc k) (grow node below beside) line proofs is =
      let moved = subst (λ (l : ℕ). IsFirstAtFault Is i low others (trees_after k beside) l at fault) (sym (line_behind node below beside k line)) is in
      inr (proofs.0, inr (proofs.1.0, behind_joined cs others k beside (line + node_lines node + lines below) proofs.1.1 moved))

  pub first_split : (cs others : List Choice) (k : ℕ) (trees : Trees) (line : ℕ) → length cs ≡ k → IsFirstAtFault Is i low (cs ++ others) trees line at fault
      → IsFirstAtFault Is i low cs (first_trees k trees) line at fault
      ⊎ (AreProofs i low cs (first_trees k trees)
      × IsFirstAtFault Is i low others (trees_after k trees) (line + lines (first_trees k trees)) at fault)
  unfolding first_trees trees_after
  first_split [] others zero trees line count is =
      inr (tt, subst (λ (l : ℕ). IsFirstAtFault Is i low others trees l at fault) (omega arith) is)
  first_split [] others (suc k) trees line count is = absurd (omega (arith, count))
  first_split (c ∷ cs) others zero trees line count is = absurd (omega (arith, count))
  first_split (c ∷ cs) others (suc k) none line count is = absurd is
  first_split (c ∷ cs) others (suc k) (grow node below beside) line count (inl is) = inl (inl is)
  first_split (c ∷ cs) others (suc k) (grow node below beside) line count (inr (suits, inl is)) = inl (inr (suits, inl is))
  first_split (c ∷ cs) others (suc k) (grow node below beside) line count (inr (suits, inr (proofs, is))) =
      elim (first_split cs others k beside (line + node_lines node + lines below) (omega (arith, count)) is) [
        | inl first ↦ inl (inr (suits, inr (proofs, first)))
        | inr behind ↦ inr (
          (suits, (proofs, behind.0)),
          subst (λ (l : ℕ). IsFirstAtFault Is i low others (trees_after k beside) l at fault) (line_behind node below beside k line) behind.1,
        )
      ]

  -- ---- a node, and the nodes behind it

  -- it is at fault where the line is one of its own
  pub own_fault : (c : Choice) (cs : List Choice) (node : Node) (below beside : Trees) (line : ℕ)
      → IsFirstAtFault Is i low (c ∷ cs) (grow node below beside) line at fault → at < line + node_lines node
      → IsNodeFault i low c node line at fault
  own_fault c cs node below beside line (inl is) own = is.0
  own_fault c cs node below beside line (inr (suits, inl is)) own =
      let lower = first_inside (choices_below i c node) below (line + node_lines node) is in
      absurd (omega (arith, lower.0, own))
  own_fault c cs node below beside line (inr (suits, inr (proofs, is))) own =
      let aside = first_inside cs beside (line + node_lines node + lines below) is in
      absurd (omega (arith, aside.0, own))

  -- and suits its choice where the line is behind them
  pub past_suits : (c : Choice) (cs : List Choice) (node : Node) (below beside : Trees) (line : ℕ)
      → IsFirstAtFault Is i low (c ∷ cs) (grow node below beside) line at fault → line + node_lines node ≤ at → Suits i low c node
  past_suits c cs node below beside line (inl is) past =
      let own = fault_inside i low c node line at fault is.0 in
      absurd (omega (arith, own.1, past))
  past_suits c cs node below beside line (inr (suits, later)) past = suits

  -- so the fault is one of what follows
  pub past_first : (c : Choice) (cs : List Choice) (node : Node) (k : ℕ) (trees : Trees) (line : ℕ)
      → IsFirstAtFault Is i low (c ∷ cs) (grow node (first_trees k trees) (trees_after k trees)) line at fault → line + node_lines node ≤ at
      → IsFirstAtFault Is i low (choices_below i c node ++ cs) trees (line + node_lines node) at fault
  past_first c cs node k trees line (inl is) past =
      let own = fault_inside i low c node line at fault is.0 in
      absurd (omega (arith, own.1, past))
  past_first c cs node k trees line (inr (suits, inl is)) past = first_joined (choices_below i c node) cs k trees (line + node_lines node) is
  past_first c cs node k trees line (inr (suits, inr (proofs, is))) past =
      behind_joined (choices_below i c node) cs k trees (line + node_lines node) proofs is

  -- and what is told of it there is told of all
  pub past_leads : (c : Choice) (cs : List Choice) (node : Node) (k : ℕ) (trees : Trees) (line : ℕ) → Suits i low c node
      → length (choices_below i c node) ≡ k → IsFirstAtFault Is i low (choices_below i c node ++ cs) trees (line + node_lines node) at fault
      → IsFirstAtFault Is i low (c ∷ cs) (grow node (first_trees k trees) (trees_after k trees)) line at fault
  past_leads c cs node k trees line suits count is =
      inr (suits, first_split (choices_below i c node) cs k trees (line + node_lines node) count is)
