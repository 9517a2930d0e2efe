-- How many levels trees have that stand side by side, as they are found from the last node on.
use Rattle.std.proofs.Common.{◌≡◌, ◌∙◌, ℕ, zero, suc, ◌+◌, ◌-◌, ◌<◌, ◌≤◌, max, List, [], ◌∷◌, ◌++◌, add-one, ap, arith, drop, length, refl, reverse, slice_index, slice_index_or, sym, take}
use Rattle.std.proofs.lemmas.List.{drop_more, length-drop, reverse-append, take_all}
use Rattle.certificate.specs.declared.node.Node.{Node}
use Rattle.certificate.specs.Trees.{Trees, none, grow, children, first_trees, levels, trees_after, trees_of}
use Rattle.certificate_reasons.specs.Heights.{heights, highest}

-- the greatest is that of the trees together
pub levels_are : (trees : Trees) → highest (heights trees) ≡ levels trees
levels_are none = refl
levels_are (grow node below beside) = ap (λ (h : ℕ). max (1 + levels below) h) (levels_are beside)

-- the first trees have the first heights, and those behind them the others
pub heights_first : (k : ℕ) (trees : Trees) → heights (first_trees k trees) ≡ take k (heights trees)
unfolding first_trees
heights_first zero trees = refl
heights_first (suc k) none = refl
heights_first (suc k) (grow node below beside) = ap (λ (hs : List ℕ). (1 + levels below) ∷ hs) (heights_first k beside)

pub heights_after : (k : ℕ) (trees : Trees) → heights (trees_after k trees) ≡ drop k (heights trees)
unfolding trees_after
heights_after zero trees = refl
heights_after (suc k) none = refl
heights_after (suc k) (grow node below beside) = heights_after k beside

-- one node more in front has a level more than those below it, and the others stand beside it
pub heights_grow : (node : Node) (nodes : List Node) → heights (trees_of (node ∷ nodes)) ≡ (highest (take (children node) (heights (trees_of nodes))) + 1)
    ∷ drop (children node) (heights (trees_of nodes))
unfolding trees_of
heights_grow node nodes =
    let c = children node in
    let below = levels_are (first_trees c (trees_of nodes)) in
    let first = heights_first c (trees_of nodes) in
    let top : 1 + levels (first_trees c (trees_of nodes)) ≡ highest (take c (heights (trees_of nodes))) + 1 = rw (← first) (omega (arith, below)) in
    rw (top, heights_after c (trees_of nodes)) refl

-- no more levels than nodes
levels_first : (k : ℕ) (trees : Trees) → levels (first_trees k trees) ≤ levels trees
unfolding first_trees
levels_first zero trees = omega arith
levels_first (suc k) none = omega arith
levels_first (suc k) (grow node below beside) =
    let rest = levels_first k beside in
    omega (arith, rest)

levels_after : (k : ℕ) (trees : Trees) → levels (trees_after k trees) ≤ levels trees
unfolding trees_after
levels_after zero trees = omega arith
levels_after (suc k) none = omega arith
levels_after (suc k) (grow node below beside) =
    let rest = levels_after k beside in
    omega (arith, rest)

pub levels_few : (nodes : List Node) → levels (trees_of nodes) ≤ length nodes
unfolding trees_of
levels_few [] = omega arith
levels_few (node ∷ nodes) =
    let few = levels_few nodes in
    let first = levels_first (children node) (trees_of nodes) in
    let after = levels_after (children node) (trees_of nodes) in
    omega (arith, few, first, after)

-- nor more among the first ones
pub highest_take : (k : ℕ) (hs : List ℕ) → highest (take k hs) ≤ highest hs
highest_take zero hs = omega arith
highest_take (suc k) [] = omega arith
highest_take (suc k) (h ∷ hs) =
    let rest = highest_take k hs in
    omega (arith, rest)

-- an empty list isn't one with a first number
no_first : {A : Type 0} (h : ℕ) (rest : List ℕ) → [] ≡ h ∷ rest → A
no_first h rest is =
    let size = ap (λ (xs : List ℕ). length xs) is in
    absurd (omega (arith, size))

-- one more of the first ones
highest_suc : (k : ℕ) (hs : List ℕ) (h : ℕ) (rest : List ℕ) → drop k hs ≡ h ∷ rest → highest (take (suc k) hs) ≡ max (highest (take k hs)) h
highest_suc zero [] h rest is = no_first h rest is
highest_suc zero (x ∷ xs) h rest is =
    let same : x ≡ h = ap (λ (l : List ℕ). slice_index l 0) is in
    omega (arith, same)
highest_suc (suc k) [] h rest is = no_first h rest is
highest_suc (suc k) (x ∷ xs) h rest is =
    let more = highest_suc k xs h rest is in
    omega (arith, more)

pub highest_more : (k : ℕ) (hs : List ℕ) (h : ℕ) (rest : List ℕ) → drop k hs ≡ h ∷ rest → highest (take (k + 1) hs) ≡ max (highest (take k hs)) h
highest_more k hs h rest is = rw (add-one k) (highest_suc k hs h rest is)

rest_suc : (k : ℕ) (hs : List ℕ) (h : ℕ) (rest : List ℕ) → drop k hs ≡ h ∷ rest → rest ≡ drop (suc k) hs
rest_suc zero [] h rest is = no_first h rest is
rest_suc zero (x ∷ xs) h rest is = sym (ap (λ (l : List ℕ). drop 1 l) is)
rest_suc (suc k) [] h rest is = no_first h rest is
rest_suc (suc k) (x ∷ xs) h rest is = rest_suc k xs h rest is

pub rest_more : (k : ℕ) (hs : List ℕ) (h : ℕ) (rest : List ℕ) → drop k hs ≡ h ∷ rest → rest ≡ drop (k + 1) hs
rest_more k hs h rest is = rw (add-one k) (rest_suc k hs h rest is)

-- where none is left the first ones are all
pub none_more : (k n : ℕ) (hs : List ℕ) → drop k hs ≡ [] → k ≤ n → (take n hs ≡ take k hs) × (drop n hs ≡ [])
none_more zero zero [] is few = (refl, refl)
none_more zero (suc n) [] is few = (refl, refl)
none_more (suc k) zero [] is few = (refl, refl)
none_more (suc k) (suc n) [] is few = (refl, refl)
none_more zero n (x ∷ xs) is few = no_first x xs (sym is)
none_more (suc k) zero (x ∷ xs) is few = absurd (omega (arith, few))
none_more (suc k) (suc n) (x ∷ xs) is few =
    let rest = none_more k n xs is (omega (arith, few)) in
    (ap (λ (hs : List ℕ). x ∷ hs) rest.0, rest.1)

-- the last of a list is the first one turned round
pub turned : (left : List ℕ) (h : ℕ) → reverse (left ++ h ∷ []) ≡ h ∷ reverse left
turned left h = reverse-append left (h ∷ [])

-- the heights with a node more, by the nodes from the last one on
pub heights_back : (nodes : List Node) (left : ℕ) (node : Node) (hs : List ℕ) (below : ℕ) → 0 < left → left ≤ length nodes
    → node ≡ slice_index_or nodes (left - 1) node → hs ≡ heights (trees_of (drop left nodes)) → below ≡ highest (take (children node) hs)
    → (below + 1) ∷ drop (children node) hs ≡ heights (trees_of (drop (left - 1) nodes))
heights_back nodes left node hs below some inside here heights_are below_is =
    let within : left - 1 < length nodes = omega (arith, some, inside) in
    let next : left - 1 + 1 ≡ left = omega (arith, some) in
    let more = drop_more nodes (left - 1) node within in
    let is : drop (left - 1) nodes ≡ node ∷ drop left nodes = more ∙ (ap (λ (x : Node). x ∷ drop (left - 1 + 1) nodes) (sym here)
    ∙ ap (λ (x : ℕ). node ∷ drop x nodes) next) in
    let grown = ap (λ (xs : List Node). heights (trees_of xs)) is ∙ heights_grow node (drop left nodes) in
    rw (below_is, heights_are) (sym grown)

-- and how many levels those below it have
pub below_few : (nodes : List Node) (left n : ℕ) (hs : List ℕ) (below : ℕ) → 0 < left → left ≤ length nodes → hs ≡ heights (trees_of (drop left nodes))
    → below ≡ highest (take n hs) → below + 1 ≤ length nodes
below_few nodes left n hs below some inside heights_are below_is =
    let few = levels_few (drop left nodes) in
    let all = levels_are (trees_of (drop left nodes)) in
    let first = highest_take n hs in
    let rest = length-drop left nodes in
    let same : highest hs ≡ highest (heights (trees_of (drop left nodes))) = ap highest heights_are in
    omega (arith, few, all, first, rest, same, some, inside, below_is)

-- behind the last node, and at the first one
none_left : (nodes : List Node) → drop (length nodes) nodes ≡ []
none_left [] = refl
none_left (node ∷ nodes) = none_left nodes

pub heights_begin : (nodes : List Node) → [] ≡ heights (trees_of (drop (length nodes) nodes))
unfolding trees_of
heights_begin nodes = sym (ap (λ (xs : List Node). heights (trees_of xs)) (none_left nodes))

pub heights_whole : (nodes : List Node) (left n : ℕ) (hs : List ℕ) (greatest : ℕ) → left ≡ 0 → hs ≡ heights (trees_of (drop left nodes)) → n ≡ length hs
    → greatest ≡ highest (take n hs) → greatest ≡ levels (trees_of nodes)
heights_whole nodes left n hs greatest whole heights_are size is =
    let all : hs ≡ heights (trees_of nodes) = heights_are ∙ ap (λ (x : ℕ). heights (trees_of (drop x nodes))) whole in
    is ∙ (ap highest (take_all n hs (omega (arith, size))) ∙ (ap highest all ∙ levels_are (trees_of nodes)))
