-- Reading the nodes of a tree one after another, with the open branches on a stack.
use Rattle.std.proofs.Common.{◌≡◌, ℕ, zero, suc, ◌+◌, List, [], ◌∷◌, ◌++◌, length, reverse, Ok, Err, refl, sym, ap, subst, ◌∙◌, append_assoc, arith}
use Rattle.std.proofs.lemmas.List.{append-nil, reverse-append}
use Rattle.certificate.specs.declared.node.Node.{Node}
use Rattle.certificate.specs.Lines.{node_lines, lines}
use Rattle.certificate.specs.Trees.{Trees, none, grow, children, preorder}
use Rattle.certificate.specs.Reading.{Reading, text_node, ReadsTrees, ends, wrong_below, wrong_beside, goes_on}
use Rattle.certificate.specs.Nodes.{ReadsNodes}
use Rattle.certificate.specs.Opened.{with_front, Then, ReadsLevels}
use Rattle.certificate.proofs.TreeLists.{lines-grow}
use Rattle.certificate.specs.declared.version.Version.{Version}

regroup : (front more : List Node) (read : Reading (List Node × List ℕ)) → with_front front (with_front more read) ≡ with_front (front ++ more) read
regroup front more (Ok x) = ap (λ (ns : List Node). Ok (ns, x.1)) (sym (append_assoc front more x.0))
regroup front more (Err f) = refl

in_front : (read : Reading (List Node × List ℕ)) → read ≡ with_front [] read
in_front (Ok x) = refl
in_front (Err f) = refl

-- a branch that has no children to come is closed
pub closed : (version : Version) (above : List ℕ) (line : ℕ) (text : List ℕ) (read : Reading (List Node × List ℕ)) → ReadsLevels version above line text read → ReadsLevels version (zero ∷ above) line text read
closed version above line text read h =
    let same : line ≡ line + 0 = omega arith in
    (Ok (none, text), (ends (length above) line text, (read, (subst (λ (l : ℕ). ReadsLevels version above l text read) same h, in_front read))))

module _ (version : Version) (k : ℕ) (above : List ℕ) (line : ℕ) (text : List ℕ) (node : Node) (after : List ℕ) (here : text_node version (length above) line text ≡ Ok (node, after)) where
  beside_read : (below : Trees) (rest : List ℕ) (beside : Reading (Trees × List ℕ)) (read : Reading (List Node × List ℕ)) → ReadsTrees version (suc (length above)) (children node) (line + node_lines node) after (Ok (below, rest))
      → ReadsTrees version (length above) k (line + node_lines node + lines below) rest beside → Then (ReadsLevels version above) (line + node_lines node + lines below) beside read
      → ReadsLevels version (suc k ∷ above) line text (with_front (node ∷ preorder below) read)
  beside_read below rest (Err fault) read b s h =
      (Err fault, (wrong_beside (length above) k line text node after below rest fault here b s, ap (with_front (node ∷ preorder below)) h))
  beside_read below rest (Ok beside) read b s h =
      let line_is : line + node_lines node + lines below + lines beside.0 ≡ line + lines (grow node below beside.0) = omega (arith, lines-grow node below beside.0) in
      let nodes_are : with_front (node ∷ preorder below) read ≡ with_front (preorder (grow node below beside.0)) h.0 =
      ap (with_front (node ∷ preorder below)) h.1.1 ∙ regroup (node ∷ preorder below) (preorder beside.0) h.0 in
      (Ok (grow node below beside.0, beside.1), (goes_on (length above) k line text node after below rest beside.0 beside.1 here b s, (h.0, (subst (λ (l : ℕ). ReadsLevels version above l beside.1 h.0) line_is h.1.0, nodes_are))))

  below_read : (below : Reading (Trees × List ℕ)) (read : Reading (List Node × List ℕ)) → ReadsTrees version (suc (length above)) (children node) (line + node_lines node) after below
      → Then (ReadsLevels version (k ∷ above)) (line + node_lines node) below read → ReadsLevels version (suc k ∷ above) line text (with_front (node ∷ []) read)
  below_read (Err fault) read b h = (Err fault, (wrong_below (length above) k line text node after fault here b, ap (with_front (node ∷ [])) h))
  below_read (Ok below) read b h =
      let whole = beside_read below.0 below.1 h.1.0.0 h.0 b h.1.0.1.0 h.1.0.1.1 in
      subst (ReadsLevels version (suc k ∷ above) line text) (sym (ap (with_front (node ∷ [])) h.1.1 ∙ regroup (node ∷ []) (preorder below.0) h.0)) whole

  -- a node, and then its children and what comes behind them
  pub grown : (read : Reading (List Node × List ℕ)) → ReadsLevels version (children node ∷ k ∷ above) (line + node_lines node) after read → ReadsLevels version (suc k ∷ above) line text (with_front (node ∷ []) read)
  grown read h = below_read h.0 read h.1.0 h.1.1

-- ---- the loop

-- Whatever reading gives for the rest, it gives for the whole, with the nodes so far in front.
abbrev pub Continues : Version → (Reading (List Node × List ℕ) → Type 0) → List Node → List ℕ → ℕ → List ℕ → Type 0
Continues version Whole nodes due line rest = (read : Reading (List Node × List ℕ)) → ReadsLevels version (reverse due) line rest read → Whole (with_front nodes read)

first_read : (version : Version) (text : List ℕ) (trees : Reading (Trees × List ℕ)) (read : Reading (List Node × List ℕ)) → ReadsTrees version 0 1 3 text trees → Then (ReadsLevels version []) 3 trees read → ReadsNodes version text read
first_read version text (Err fault) read r h = (Err fault, (r, h))
first_read version text (Ok trees) read r h =
    (Ok trees, (r, h.1.1 ∙ ap (with_front (preorder trees.0)) h.1.0 ∙ ap (λ (ns : List Node). Ok (ns, trees.1)) (append-nil (preorder trees.0))))

pub begins : (version : Version) (text : List ℕ) → Continues version (ReadsNodes version text) [] (1 ∷ []) 3 text
begins version text read h = subst (ReadsNodes version text) (in_front read) (first_read version text h.0 read h.1.0 h.1.1)

pub snoc : (xs : List ℕ) (x : ℕ) → reverse (xs ++ x ∷ []) ≡ x ∷ reverse xs
snoc xs x = reverse-append xs (x ∷ [])
