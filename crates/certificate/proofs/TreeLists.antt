-- Trees are their nodes in preorder, both ways.
use Rattle.std.proofs.Common.{◌≡◌, ℕ, zero, suc, ◌+◌, ◌<◌, List, [], ◌∷◌, ◌++◌, length, take, get_or, refl, ap, ◌∙◌, append_assoc, arith}
use Rattle.std.proofs.lemmas.List.{take_more}
use Rattle.certificate.specs.declared.node.Node.{Node}
use Rattle.certificate.specs.Trees.{Trees, none, grow, children, preorder, AreTrees, first_trees, trees_after, trees_of}
use Rattle.certificate.specs.Lines.{node_lines, total_lines, lines, line_of}

split : (k : ℕ) (trees : Trees) → preorder (first_trees k trees) ++ preorder (trees_after k trees) ≡ preorder trees
unfolding first_trees trees_after
split zero trees = refl
split (suc k) none = refl
split (suc k) (grow node below beside) =
    ap (λ (ns : List Node). node ∷ ns) (append_assoc (preorder below) (preorder (first_trees k beside)) (preorder (trees_after k beside)) ∙ ap (λ (ns : List Node). preorder below ++ ns) (split k beside))

-- the nodes of the trees that a list is are the list
pub preorder-trees_of : (nodes : List Node) → preorder (trees_of nodes) ≡ nodes
unfolding trees_of
preorder-trees_of [] = refl
preorder-trees_of (node ∷ nodes) = ap (λ (ns : List Node). node ∷ ns) (split (children node) (trees_of nodes) ∙ preorder-trees_of nodes)

both : (node : Node) (k : ℕ) (t below beside : Trees) → first_trees k t ≡ below → trees_after k t ≡ beside → grow node (first_trees k t) (trees_after k t) ≡ grow node below beside
both node k t below beside a b = rw (a, b) refl

-- so many trees in front of other nodes
front : (k : ℕ) (trees : Trees) (rest : List Node) → AreTrees k trees → (first_trees k (trees_of (preorder trees ++ rest)) ≡ trees) × (trees_after k (trees_of (preorder trees ++ rest)) ≡ trees_of rest)
unfolding first_trees trees_after trees_of
front zero none rest are = (refl, refl)
front zero (grow node below beside) rest are = absurd are
front (suc k) none rest are = absurd are
front (suc k) (grow node below beside) rest are =
    let b = front (children node) below (preorder beside ++ rest) are.0 in
    let s = front k beside rest are.1 in
    let regroup : (preorder below ++ preorder beside) ++ rest ≡ preorder below ++ (preorder beside ++ rest) = append_assoc (preorder below) (preorder beside) rest in
    let here : trees_of (node ∷ ((preorder below ++ preorder beside) ++ rest)) ≡ grow node below (trees_of (preorder beside ++ rest)) =
    rw regroup (both node (children node) (trees_of (preorder below ++ (preorder beside ++ rest))) below (trees_of (preorder beside ++ rest)) b.0 b.1) in
    (ap (first_trees (suc k)) here ∙ ap (grow node below) s.0, ap (trees_after (suc k)) here ∙ s.1)

-- the trees that the nodes of trees are
pub trees_of-preorder : (k : ℕ) (trees : Trees) → AreTrees k trees → trees_of (preorder trees) ≡ trees
unfolding trees_of
trees_of-preorder zero none are = refl
trees_of-preorder zero (grow node below beside) are = absurd are
trees_of-preorder (suc k) none are = absurd are
trees_of-preorder (suc k) (grow node below beside) are =
    let b = front (children node) below (preorder beside) are.0 in
    both node (children node) (trees_of (preorder below ++ preorder beside)) below beside b.0 (b.1 ∙ trees_of-preorder k beside are.1)

pub total_lines-append : (xs ys : List Node) → total_lines (xs ++ ys) ≡ total_lines xs + total_lines ys
total_lines-append [] ys = omega arith
total_lines-append (x ∷ xs) ys = omega (arith, total_lines-append xs ys)

pub lines-grow : (node : Node) (below beside : Trees) → lines (grow node below beside) ≡ node_lines node + (lines below + lines beside)
lines-grow node below beside = ap (λ (n : ℕ). node_lines node + n) (total_lines-append (preorder below) (preorder beside))

-- the line of the next node
pub line_of-next : (nodes : List Node) (k : ℕ) (other : Node) → k < length nodes → line_of nodes (k + 1) ≡ line_of nodes k + node_lines (get_or nodes k other)
line_of-next nodes k other lt =
    let taken = ap total_lines (take_more nodes k other lt) ∙ total_lines-append (take k nodes) (get_or nodes k other ∷ []) in
    omega (arith, taken)
