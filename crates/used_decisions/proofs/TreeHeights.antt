-- Trees with heights: the first of them below a node, and the one that is left.
use Rattle.std.proofs.Common.{◌≡◌, ℕ, ◌+◌, ◌-◌, ◌<◌, ◌≤◌, List, [], ◌∷◌, ◌++◌, All, length, reverse, drop, get_or, max, refl, sym, ap, subst, ◌∙◌, append_assoc, arith}
use Rattle.std.proofs.Math.Seq.{drop-length}
use Rattle.std.proofs.lemmas.List.{drop_more, reverse-append, length-append}
use Rattle.std.proofs.lemmas.List.Elements.{All-nil, All-cons, All-append, All-head, All-tail, All-weaker}
use Rattle.certificate.specs.Limits.{most_branches_above}
use Rattle.certificate.specs.declared.node.Node.{Node}
use Rattle.certificate.specs.Trees.{Trees, none, grow, children, AreTrees, levels, IsTree, first_trees, trees_after, trees_of}
use Rattle.used_decisions.specs.Heights.{HaveHeights, AreTaken}

-- so many trees in front, none of them higher than a number, and those behind them
abbrev pub AreFirst : ℕ → ℕ → List ℕ → Trees → Type 0
AreFirst count most rest trees =
    AreTrees count (first_trees count trees) × (levels (first_trees count trees) ≤ most) × HaveHeights rest (trees_after count trees)

pub first_of : (taken rest : List ℕ) (trees : Trees) (most : ℕ) → HaveHeights (taken ++ rest) trees → All (λ height. height ≤ most) taken
    → AreFirst (length taken) most rest trees
unfolding first_trees trees_after
first_of [] rest trees most have all = (tt, omega arith, have)
first_of (height ∷ taken) rest none most have all = absurd have
first_of (height ∷ taken) rest (grow node below beside) most have all =
    let next = first_of taken rest beside most have.2 (All-tail (λ h. h ≤ most) height taken all) in
    let here : height ≤ most = All-head (λ h. h ≤ most) height taken all in
    ((have.0, next.0), omega (arith, have.1, next.1), next.2)

-- a node in front of trees, as many of which stand below it as it has children
pub grown : (node : Node) (nodes : List Node) (taken rest : List ℕ) (most : ℕ) → HaveHeights (taken ++ rest) (trees_of nodes) → length taken ≡ children node
    → All (λ height. height ≤ most) taken → HaveHeights ((most + 1) ∷ rest) (trees_of (node ∷ nodes))
unfolding trees_of
grown node nodes taken rest most have count all =
    let first = subst (λ (k : ℕ). AreFirst k most rest (trees_of nodes)) count (first_of taken rest (trees_of nodes) most have all) in
    (first.0, omega (arith, first.1), first.2)

-- the tree that is left
pub lone : (height : ℕ) (trees : Trees) → HaveHeights (height ∷ []) trees → height ≤ most_branches_above + 1 → IsTree trees
lone height none have low = absurd have
lone height (grow node below none) have low = record { one = (have.0, tt); shallow = omega (arith, have.1) }
lone height (grow node below (grow other under beside)) have low = absurd have.2

pub none_taken : (heights : List ℕ) → AreTaken 0 0 heights heights
none_taken heights = record { taken = []; are = refl; count_is = refl; low = All-nil (λ height. height ≤ 0) }

pub one_taken : (count most height : ℕ) (before after rest : List ℕ) → AreTaken count most before after → after ≡ rest ++ height ∷ []
    → AreTaken (count + 1) (max most height) before rest
one_taken count most height before after rest t is =
    let back : reverse after ≡ height ∷ reverse rest = ap reverse is ∙ reverse-append rest (height ∷ []) in
    record {
      taken = t.taken ++ height ∷ [];
      are = t.are ∙ ap (λ (xs : List ℕ). t.taken ++ xs) back ∙ sym (append_assoc t.taken (height ∷ []) (reverse rest));
      count_is = length-append t.taken (height ∷ []) ∙ omega (arith, t.count_is);
      low =
          All-append (λ h. h ≤ max most height) t.taken (height ∷ [])
          (All-weaker (λ h. h ≤ most) (λ h. h ≤ max most height) (λ h le. omega (arith, le)) t.taken t.low)
          (All-cons (λ h. h ≤ max most height) height [] (omega arith) (All-nil (λ h. h ≤ max most height)));
    }

-- behind the last node no tree is left
pub none_left : (heights : List ℕ) (nodes : List Node) → heights ≡ [] → HaveHeights (reverse heights) (trees_of (drop (length nodes) nodes))
unfolding trees_of
none_left heights nodes is =
    subst (λ (hs : List ℕ). HaveHeights (reverse hs) (trees_of (drop (length nodes) nodes))) (sym is)
    (subst (λ (ns : List Node). HaveHeights [] (trees_of ns)) (sym (drop-length nodes)) tt)

-- one node in front of the trees that are left
pub one_more : (nodes : List Node) (left : ℕ) (node : Node) (count most : ℕ) (before between after : List ℕ) → 0 < left → left ≤ length nodes
    → node ≡ get_or nodes (left - 1) node → count ≡ children node
    → HaveHeights (reverse before) (trees_of (drop left nodes)) → AreTaken count most before between → after ≡ between ++ (most + 1) ∷ []
    → HaveHeights (reverse after) (trees_of (drop (left - 1) nodes))
one_more nodes left node count most before between after some inside is children_are have t pushed =
    let lt : left - 1 < length nodes = omega arith in
    let same : left - 1 + 1 ≡ left = omega arith in
    let here : drop (left - 1) nodes ≡ node ∷ drop left nodes =
    drop_more nodes (left - 1) node lt ∙ ap (λ (n : Node). n ∷ drop (left - 1 + 1) nodes) (sym is) ∙ ap (λ (k : ℕ). node ∷ drop k nodes) same in
    let back : reverse after ≡ (most + 1) ∷ reverse between = ap reverse pushed ∙ reverse-append between ((most + 1) ∷ []) in
    let split : HaveHeights (t.taken ++ reverse between) (trees_of (drop left nodes)) = subst
    (λ (hs : List ℕ). HaveHeights hs (trees_of (drop left nodes))) t.are have in
    subst (λ (hs : List ℕ). HaveHeights hs (trees_of (drop (left - 1) nodes))) (sym back)
    (subst (λ (ns : List Node). HaveHeights ((most + 1) ∷ reverse between) (trees_of ns)) (sym here)
    (grown node (drop left nodes) t.taken (reverse between) most split (t.count_is ∙ children_are) t.low))

-- the tree of all nodes
pub all_left : (nodes : List Node) (left height : ℕ) (heights : List ℕ) → left ≡ 0 → heights ≡ height ∷ [] → height ≤ most_branches_above + 1
    → HaveHeights (reverse heights) (trees_of (drop left nodes)) → IsTree (trees_of nodes)
all_left nodes left height heights none_there one low have =
    lone height (trees_of nodes)
    (subst (λ (hs : List ℕ). HaveHeights (reverse hs) (trees_of nodes)) one (subst
    (λ (k : ℕ). HaveHeights (reverse heights) (trees_of (drop k nodes))) none_there have))
    low
