-- What is left of a certificate behind a place.
use Rattle.std.proofs.Common.{◌≡◌, ℕ, zero, suc, ◌+◌, ◌-◌, ◌<◌, ◌≤◌, List, [], ◌∷◌, ◌++◌, length, drop, slice_index_or, Option, Bool, false, cond, arith, inl, inr, refl, sym, ap, subst, ◌∙◌, append_assoc, zero-add}
use Rattle.std.proofs.lemmas.Bool.{cases_lt}
use Rattle.std.proofs.lemmas.List.{drop_more, length-append, length-drop}
use Rattle.ttp_model.specs.declared.step.Leaf.{Leaf}
use Rattle.tt_choice.specs.Choice.{Choice}
use Rattle.certificate.specs.declared.node.Node.{Node}
use Rattle.certificate.specs.Trees.{Trees, none, grow, children, AreTrees, preorder}
use Rattle.side_by_side.specs.Joined.{below_top, beside_top}
use Rattle.side_by_side.specs.Passing.{Group, IsLeft}

-- ---- trees one after another

-- trees, and others beside them
abbrev pub together : Trees → Trees → Trees
together none others = others
together (grow node below beside) others = grow node below (together beside others)

preorder-together : (trees others : Trees) → preorder (together trees others) ≡ preorder trees ++ preorder others
preorder-together none others = refl
preorder-together (grow node below beside) others =
    ap (λ (ns : List Node). node ∷ ns)
    (ap (λ (ns : List Node). preorder below ++ ns) (preorder-together beside others) ∙ sym (append_assoc (preorder below) (preorder beside) (preorder others)))

AreTrees-together : (j k : ℕ) (trees others : Trees) → AreTrees j trees → AreTrees k others → AreTrees (j + k) (together trees others)
AreTrees-together zero k none others are more = rw (zero-add k) more
AreTrees-together zero k (grow node below beside) others are more = absurd are
AreTrees-together (suc j) k none others are more = absurd are
AreTrees-together (suc j) k (grow node below beside) others are more =
    let sum : suc j + k ≡ suc (j + k) = omega arith in
    rw sum (are.0, AreTrees-together j k beside others are.1 more)

-- no more trees than nodes
few_trees : (k : ℕ) (trees : Trees) → AreTrees k trees → k ≤ length (preorder trees)
few_trees zero trees are = omega arith
few_trees (suc k) none are = absurd are
few_trees (suc k) (grow node below beside) are = omega (arith, few_trees k beside are.1, length-append (preorder below) (preorder beside))

-- ---- behind a tree

-- so many trees are still to be passed, and then these nodes follow
abbrev pub Skips : List Node → ℕ → ℕ → List Node → Type 0
Skips nodes at due more = (trees : Trees) × (AreTrees due trees × (drop at nodes ≡ preorder trees ++ more))

pub skips_room : (nodes : List Node) (at due : ℕ) (more : List Node) → Skips nodes at due more → at ≤ length nodes → at + due ≤ length nodes
skips_room nodes at due more skips inside =
    omega (arith, few_trees due skips.0 skips.1.0, ap length skips.1.1, length-append (preorder skips.0) more, length-drop at nodes, inside)

pub skips_inside : (nodes : List Node) (at due : ℕ) (more : List Node) → Skips nodes at due more → 0 < due → at < length nodes
skips_inside nodes at due more skips some =
    omega (arith, few_trees due skips.0 skips.1.0, ap length skips.1.1, length-append (preorder skips.0) more, length-drop at nodes, some)

-- nodes from a place on begin with the node there
pub from_node : (nodes : List Node) (at : ℕ) (node : Node) → at < length nodes → node ≡ slice_index_or nodes at node
    → drop at nodes ≡ node ∷ drop (at + 1) nodes
from_node nodes at node inside here = drop_more nodes at node inside ∙ ap (λ (n : Node). n ∷ drop (at + 1) nodes) (sym here)

-- the first two, and those behind them
pub head_and_tail : (a b : Node) (xs ys : List Node) → a ∷ xs ≡ b ∷ ys → (a ≡ b) × (xs ≡ ys)
head_and_tail a b xs ys same = (ap (λ (ns : List Node). slice_index_or ns 0 a) same, ap (drop 1) same)

skips_next_of : (nodes : List Node) (at due : ℕ) (node : Node) (trees : Trees) (more : List Node) → at < length nodes
    → node ≡ slice_index_or nodes at node → 0 < due → AreTrees due trees → drop at nodes ≡ preorder trees ++ more
    → Skips nodes (at + 1) (due - 1 + children node) more
skips_next_of nodes at zero node trees more inside here some are left = absurd (omega (arith, some))
skips_next_of nodes at (suc due) node none more inside here some are left = absurd are
skips_next_of nodes at (suc due) node (grow own below beside) more inside here some are left =
    let parts = head_and_tail node own (drop (at + 1) nodes) ((preorder below ++ preorder beside) ++ more) (sym (from_node nodes at node inside here) ∙ left) in
    let count : children own + due ≡ suc due - 1 + children node = omega (arith, ap children parts.0) in (
      together below beside,
      (
        subst (λ (n : ℕ). AreTrees n (together below beside)) count (AreTrees-together (children own) due below beside are.0 are.1),
        parts.1 ∙ ap (λ (ns : List Node). ns ++ more) (sym (preorder-together below beside)),
      ),
    )

pub skips_next : (nodes : List Node) (at due : ℕ) (node : Node) (more : List Node) → at < length nodes → node ≡ slice_index_or nodes at node → 0 < due
    → Skips nodes at due more → Skips nodes (at + 1) (due - 1 + children node) more
skips_next nodes at due node more inside here some skips = skips_next_of nodes at due node skips.0 more inside here some skips.1.0 skips.1.1

-- no tree is left, so all are passed
no_trees : (trees : Trees) → AreTrees 0 trees → preorder trees ≡ []
no_trees none are = refl
no_trees (grow node below beside) are = absurd are

pub skips_all : (nodes : List Node) (at : ℕ) (more : List Node) → Skips nodes at 0 more → drop at nodes ≡ more
skips_all nodes at more skips = skips.1.1 ∙ ap (λ (ns : List Node). ns ++ more) (no_trees skips.0 skips.1.0)

-- ---- one certificate at the places that are still to come

-- it is left alike by another level that takes part in them all
pub level_alike : (k : ℕ) (gs : List Group) (level other : ℕ) (rest : List Node) → length gs ≤ level → length gs ≤ other → IsLeft k gs level rest
    → IsLeft k gs other rest
level_alike k [] level other rest some more left = left
level_alike k (g ∷ gs) level other rest some more left = (
  left.0,
  (
    left.1.0,
    (
      record {
        shared = λ h. left.1.1.0.shared (omega (arith, some));
        passed = λ h. absurd (omega (arith, h, more));
      },
      level_alike k gs level other left.0 (omega (arith, some)) (omega (arith, more)) left.1.1.1,
    ),
  ),
)

-- the innermost places are all passed
pub left_behind : (k : ℕ) (g : Group) (gs : List Group) (level : ℕ) (rest : List Node) → g.choices ≡ [] → IsLeft k (g ∷ gs) level rest → IsLeft k gs level rest
left_behind k g gs level rest empty left =
    let nothing : preorder (g.at k) ≡ [] = elim (cases_lt level (length gs)) [
      | inl away ↦ ap preorder (left.1.1.0.passed away)
      | inr there ↦
          let are : AreTrees (length g.choices) (g.at k) = left.1.1.0.shared there in
          no_trees (g.at k) (subst (λ (cs : List Choice). AreTrees (length cs) (g.at k)) empty are)
    ] in
    let same : rest ≡ left.0 = left.1.0 ∙ ap (λ (ns : List Node). ns ++ left.0) nothing in
    subst (IsLeft k gs level) (sym same) left.1.1.1

-- Places side by side behind the first one, and those below it.
abbrev pub behind_first : Group → List Choice → Group
behind_first g cs = record { choices = cs; above = g.above; at = λ k. beside_top (g.at k) }

abbrev pub below_first : Group → List Choice → Option Leaf → List Bool → Group
below_first g cs best flags = record { choices = cs; above = best; at = λ k. cond (slice_index_or flags k false) (below_top (g.at k)) none }
