-- What a certificate proves: that every valid plan has at least its bound as delay.
use Rattle.std.proofs.Common.{◌≡◌, ℕ, suc, ◌+◌, ◌<◌, ◌≤◌, List, [], ◌∷◌, All, length, arith, inl, inr, zero-add}
use Rattle.std.proofs.lemmas.Bool.{cases_order}
use Rattle.std.proofs.lemmas.List.Elements.{All-cons}
use Rattle.std.proofs.lemmas.List.FromFn.{get_or-map-range_with_len}
use Rattle.ttp_model.specs.declared.plan.Plan.{Plan}
use Rattle.ttp_model.specs.declared.step.Kind.{Kind}
use Rattle.ttp_model.specs.Instance.{Instance}
use Rattle.ttp_model.specs.Rules.{IsInstance}
use Rattle.ttp_model.specs.Plans.{IsValid}
use Rattle.ttp_model.specs.Moves.{IsSettled}
use Rattle.ttp_model.specs.Delays.{delay, IsLowerBound, IsLeastDelay, HasNoPlan}
use Rattle.ttp_model.proofs.ValidPlans.{bound_is_none}
use Rattle.ttp_model.proofs.Reached.{settled_reached}
use Rattle.tt_choice.specs.Choice.{Choice, IsChoice, IsIn}
use Rattle.tt_choice.specs.Branches.{IsOpen, children, child, child_choices, root_choice}
use Rattle.tt_choice.proofs.ChildLists.{length-child_choices, children_are}
use Rattle.tt_choice.proofs.Children.{child-IsIn}
use Rattle.tt_choice.proofs.Root.{IsChoice-root, IsIn-root}
use Rattle.tt_infer.proofs.Leaves.{leaf_leaves_none}
use Rattle.certificate.specs.declared.node.Node.{Node}
use Rattle.certificate.specs.declared.node.Node.TheVariants.{Branch, Leaf}
use Rattle.certificate.specs.Trees.{Trees, none, grow}
use Rattle.certificate.specs.Cert.{Cert}
use Rattle.tree_check.specs.Proofs.{choices_below, Suits, AreProofs, Proves}

-- every settled plan of the choice has at least this delay
abbrev pub BoundsBelow : Instance → ℕ → Choice → Type 0
BoundsBelow i low c = (plan : Plan) → IsSettled i plan → IsIn i c plan → low ≤ delay i plan

-- what bounds all children bounds the choice
from_children : (i : Instance) (low : ℕ) (c : Choice) (k : Kind) → IsChoice i c → IsOpen i c k → All (BoundsBelow i low) (child_choices i c k)
    → BoundsBelow i low c
from_children i low c k ok is_open each plan settled chosen =
    let there = child-IsIn i c k plan ok is_open settled.valid chosen in
    let same = get_or-map-range_with_len (child i c k) 0 (children i c k) there.0 there.0 c there.1 (zero-add there.0) in
    let inside : there.0 < length (child_choices i c k) = rw (length-child_choices i c k) there.1 in
    (rw same at (each there.0 c inside)) plan settled there.2

-- the choices below a node are choices of the instance
pub below_are : (i : Instance) (low : ℕ) (c : Choice) (node : Node) → IsChoice i c → Suits i low c node → All (IsChoice i) (choices_below i c node)
below_are i low c (Branch branch) ok suits = children_are i c branch.kind ok suits.is_open
below_are i low c (Leaf leaf) ok suits = λ k d h. absurd (omega (arith, h))

-- a node that suits, with proofs below it, bounds its choice
node_bounds : (i : Instance) (low : ℕ) (c : Choice) (node : Node) → IsInstance i → IsChoice i c → Suits i low c node
    → All (BoundsBelow i low) (choices_below i c node) → BoundsBelow i low c
node_bounds i low c (Branch branch) w ok suits each = from_children i low c branch.kind ok suits.is_open each
node_bounds i low c (Leaf leaf) w ok suits each = λ plan settled chosen. elim (cases_order (delay i plan) leaf.goal) [
  | inl same ↦ omega (arith, same, suits.goal)
  | inr other ↦ elim other [
    | inl below ↦ absurd (leaf_leaves_none i c leaf w ok suits.closes plan (record { settled = settled; chosen = chosen; better = below }))
    | inr above ↦ omega (arith, above, suits.goal)
  ]
]

pub proofs_bound : (i : Instance) (low : ℕ) (cs : List Choice) (trees : Trees) → IsInstance i → All (IsChoice i) cs → AreProofs i low cs trees
    → All (BoundsBelow i low) cs
proofs_bound i low [] none w ok are = λ k d h. absurd (omega (arith, h))
proofs_bound i low [] (grow node below beside) w ok are = absurd are
proofs_bound i low (c ∷ cs) none w ok are = absurd are
proofs_bound i low (c ∷ cs) (grow node below beside) w ok are =
    let first : IsChoice i c = ok 0 c (omega arith) in
    let others : All (IsChoice i) cs = λ k d h. ok (suc k) d (omega (arith, h)) in
    All-cons (BoundsBelow i low) c cs
    (node_bounds i low c node w first are.0 (proofs_bound i low (choices_below i c node) below w (below_are i low c node first are.0) are.1.0))
    (proofs_bound i low cs beside w others are.1.1)

-- a certificate that proves its bound: each valid plan leads to a settled one that ends no later
pub proved_bound : (i : Instance) (cert : Cert) → IsInstance i → Proves i cert → IsLowerBound i cert.low
proved_bound i cert w proves plan valid =
    let alone = All-cons (IsChoice i) (root_choice i) [] (IsChoice-root i w) (λ k d h. absurd (omega (arith, h))) in
    let reached = settled_reached i plan w valid in
    let low = proofs_bound i cert.low (root_choice i ∷ []) cert.tree w alone proves.tree 0 (root_choice i) (omega arith) reached.0 reached.1
    (IsIn-root i reached.0 w reached.1.valid) in
    omega (arith, low, reached.2)

-- with a bound past the horizon
pub proved_none : (i : Instance) (cert : Cert) → IsInstance i → Proves i cert → cert.low ≡ i.cluster.horizon + 1 → HasNoPlan i
proved_none i cert w proves past plan valid =
    bound_is_none i w (rw past at (proved_bound i cert w proves)) plan valid

-- and with a plan whose delay is the bound
pub proved_least : (i : Instance) (cert : Cert) (plan : Plan) → IsInstance i → Proves i cert → IsValid i plan → delay i plan ≡ cert.low
    → IsLeastDelay i cert.low
proved_least i cert plan w proves valid reached = record { plan = plan; valid = valid; reached = reached; bound = proved_bound i cert w proves }
