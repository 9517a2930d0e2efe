-- The laws of trees in a text: what is read is spelled so, what is spelled so is read, and reading
-- gives one answer.
use Rattle.std.proofs.Common.{◌≡◌, ℕ, zero, suc, ◌+◌, ◌≤◌, List, [], ◌∷◌, ◌++◌, All, IfOk, Ok, Err, refl, sym, ap, subst, ◌∙◌, append_assoc, arith}
use Rattle.std.specs.List.{flat_map}
use Rattle.std.proofs.lemmas.Grind.{flat_map-append}
use Rattle.std.proofs.lemmas.List.Elements.{All-nil, All-cons, All-append, All-head, All-tail}
use Rattle.certificate.specs.declared.limits.TheConstants.{MOST_BRANCHES_ABOVE}
use Rattle.certificate.specs.declared.node.Node.{Node}
use Rattle.certificate.specs.Lines.{node_lines, lines}
use Rattle.certificate.specs.Trees.{Trees, none, grow, children, preorder, AreTrees, levels}
use Rattle.certificate.specs.Spelling.{node_text, NodeHasText}
use Rattle.certificate.specs.Reading.{Reading, text_node, ReadsTrees, ends, wrong_node, wrong_below, wrong_beside, goes_on}
use Rattle.certificate.proofs.NodeLaws.{node_takes, node_again}
use Rattle.certificate.specs.declared.version.Version.{Version}
use Rattle.certificate.specs.Versions.{AllowsNode}

-- the lines of trees
abbrev pub trees_text : Trees → List ℕ
trees_text trees = flat_map node_text (preorder trees)

-- ---- what is read is spelled so

pub record IsTaken (version : Version) (above k : ℕ) (text : List ℕ) (read : Trees) (rest : List ℕ) : Type 0 where
  pub spelled : text ≡ trees_text read ++ rest
  pub trees : AreTrees k read
  pub shallow : above + levels read ≤ MOST_BRANCHES_ABOVE + 1
  pub nodes : All NodeHasText (preorder read)
  pub allowed : All (AllowsNode version) (preorder read)

grow_text : (node : Node) (below beside : Trees) (rest : List ℕ) → trees_text (grow node below beside) ++ rest ≡ node_text node ++ (trees_text below ++ (trees_text beside ++ rest))
grow_text node below beside rest =
    ap (λ (t : List ℕ). (node_text node ++ t) ++ rest) (flat_map-append node_text (preorder below) (preorder beside)) ∙ simp append_assoc

texts_joined : (node : Node) (below beside : Trees) (text after rest end : List ℕ) → text ≡ node_text node ++ after → after ≡ trees_text below ++ rest → rest ≡ trees_text beside ++ end
    → text ≡ trees_text (grow node below beside) ++ end
texts_joined node below beside text after rest end a b c =
    a ∙ ap (λ (t : List ℕ). node_text node ++ t) (b ∙ ap (λ (t : List ℕ). trees_text below ++ t) c) ∙ sym (grow_text node below beside end)

pub trees_take : (version : Version) {above k line : ℕ} {text : List ℕ} {read : Reading (Trees × List ℕ)} → ReadsTrees version above k line text read → above ≤ MOST_BRANCHES_ABOVE + 1 → IfOk read (λ x. IsTaken version above k text x.0 x.1)
trees_take version (ends above line text) high = record { spelled = refl; trees = tt; shallow = omega arith; nodes = All-nil NodeHasText; allowed = All-nil (AllowsNode version) }
trees_take version (wrong_node above k line text fault e) high = tt
trees_take version (wrong_below above k line text node after fault e b) high = tt
trees_take version (wrong_beside above k line text node after below rest fault e b s) high = tt
trees_take version (goes_on above k line text node after below rest beside end e b s) high =
    let here = node_takes version above line text (node, after) e in
    let under = trees_take version b (omega (arith, here.2)) in
    let next = trees_take version s high in
    record {
      spelled = texts_joined node below beside text after rest end here.0 under.spelled next.spelled;
      trees = (under.trees, next.trees);
      shallow = omega (arith, under.shallow, next.shallow);
      nodes = All-cons NodeHasText node (preorder below ++ preorder beside) here.1 (All-append NodeHasText (preorder below) (preorder beside) under.nodes next.nodes);
      allowed =
          All-cons (AllowsNode version) node (preorder below ++ preorder beside) here.3
          (All-append (AllowsNode version) (preorder below) (preorder beside) under.allowed next.allowed);
    }

-- ---- what is spelled so is read

module _ (P : Node → Type 0) where
  All-front : (xs ys : List Node) → All P (xs ++ ys) → All P xs
  All-front [] ys all = All-nil P
  All-front (x ∷ xs) ys all = All-cons P x xs (All-head P x (xs ++ ys) all) (All-front xs ys (All-tail P x (xs ++ ys) all))

  All-back : (xs ys : List Node) → All P (xs ++ ys) → All P ys
  All-back [] ys all = all
  All-back (x ∷ xs) ys all = All-back xs ys (All-tail P x (xs ++ ys) all)

pub trees_again : (version : Version) (above k line : ℕ) (trees : Trees) (rest : List ℕ) → AreTrees k trees → above + levels trees ≤ MOST_BRANCHES_ABOVE + 1 → All NodeHasText (preorder trees) → All (AllowsNode version) (preorder trees)
    → ReadsTrees version above k line (trees_text trees ++ rest) (Ok (trees, rest))
trees_again version above zero line none rest are high all may = ends above line rest
trees_again version above zero line (grow node below beside) rest are high all may = absurd are
trees_again version above (suc k) line none rest are high all may = absurd are
trees_again version above (suc k) line (grow node below beside) rest are high all may =
    let tail = All-tail NodeHasText node (preorder below ++ preorder beside) all in
    let may_tail = All-tail (AllowsNode version) node (preorder below ++ preorder beside) may in
    let here = node_again version above line node (trees_text below ++ (trees_text beside ++ rest)) (omega (arith, high)) (All-head NodeHasText node (preorder below ++ preorder beside) all)
    (All-head (AllowsNode version) node (preorder below ++ preorder beside) may) in
    let under = trees_again version (suc above) (children node) (line + node_lines node) below (trees_text beside ++ rest) are.0 (omega (arith, high)) (All-front NodeHasText (preorder below) (preorder beside) tail)
    (All-front (AllowsNode version) (preorder below) (preorder beside) may_tail) in
    let next = trees_again version above k (line + node_lines node + lines below) beside rest are.1 (omega (arith, high)) (All-back NodeHasText (preorder below) (preorder beside) tail)
    (All-back (AllowsNode version) (preorder below) (preorder beside) may_tail) in
    subst (λ (text : List ℕ). ReadsTrees version above (suc k) line text (Ok (grow node below beside, rest))) (sym (grow_text node below beside rest))
    (goes_on above k line (node_text node ++ (trees_text below ++ (trees_text beside ++ rest))) node (trees_text below ++ (trees_text beside ++ rest)) below (trees_text beside ++ rest) beside rest here under next)

-- ---- reading gives one answer

-- what reading gives, from what it gives for its parts
AfterBeside : Node → Trees → Reading (Trees × List ℕ) → Reading (Trees × List ℕ) → Type 0
AfterBeside node below (Err fault) read = Err fault ≡ read
AfterBeside node below (Ok beside) read = Ok (grow node below beside.0, beside.1) ≡ read

AfterBelow : Version → ℕ → ℕ → ℕ → Node → Reading (Trees × List ℕ) → Reading (Trees × List ℕ) → Type 0
AfterBelow version above k line node (Err fault) read = Err fault ≡ read
AfterBelow version above k line node (Ok below) read =
    (beside : Reading (Trees × List ℕ)) × (ReadsTrees version above k (line + node_lines node + lines below.0) below.1 beside × AfterBeside node below.0 beside read)

AfterNode : Version → ℕ → ℕ → ℕ → Reading (Node × List ℕ) → Reading (Trees × List ℕ) → Type 0
AfterNode version above k line (Err fault) read = Err fault ≡ read
AfterNode version above k line (Ok node) read =
    (below : Reading (Trees × List ℕ)) × (ReadsTrees version (suc above) (children node.0) (line + node_lines node.0) node.1 below × AfterBelow version above k line node.0 below read)

parts_of : (version : Version) {above k line : ℕ} {text : List ℕ} {read : Reading (Trees × List ℕ)} → ReadsTrees version above (suc k) line text read → AfterNode version above k line (text_node version above line text) read
unfolding AfterNode AfterBelow AfterBeside
parts_of version (wrong_node above k line text fault e) = rw e refl
parts_of version (wrong_below above k line text node after fault e b) = rw e (Err fault, (b, refl))
parts_of version (wrong_beside above k line text node after below rest fault e b s) = rw e (Ok (below, rest), (b, (Err fault, (s, refl))))
parts_of version (goes_on above k line text node after below rest beside end e b s) = rw e (Ok (below, rest), (b, (Ok (beside, end), (s, refl))))

nothing_read : (version : Version) {above line : ℕ} {text : List ℕ} {read : Reading (Trees × List ℕ)} → ReadsTrees version above zero line text read → Ok (none, text) ≡ read
nothing_read version (ends above line text) = refl

pub one_reading : (version : Version) {above k line : ℕ} {text : List ℕ} {read : Reading (Trees × List ℕ)} → ReadsTrees version above k line text read → (other : Reading (Trees × List ℕ)) → ReadsTrees version above k line text other → read ≡ other
unfolding AfterNode AfterBelow AfterBeside
one_reading version (ends above line text) other o = nothing_read version o
one_reading version (wrong_node above k line text fault e) other o = rw e at (parts_of version o)
one_reading version (wrong_below above k line text node after fault e b) other o =
    let p : AfterNode version above k line (Ok (node, after)) other = rw e at (parts_of version o) in
    subst (λ (r : Reading (Trees × List ℕ)). AfterBelow version above k line node r other) (sym (one_reading version b p.0 p.1.0)) p.1.1
one_reading version (wrong_beside above k line text node after below rest fault e b s) other o =
    let p : AfterNode version above k line (Ok (node, after)) other = rw e at (parts_of version o) in
    let q : AfterBelow version above k line node (Ok (below, rest)) other = subst (λ (r : Reading (Trees × List ℕ)). AfterBelow version above k line node r other) (sym (one_reading version b p.0 p.1.0)) p.1.1 in
    subst (λ (r : Reading (Trees × List ℕ)). AfterBeside node below r other) (sym (one_reading version s q.0 q.1.0)) q.1.1
one_reading version (goes_on above k line text node after below rest beside end e b s) other o =
    let p : AfterNode version above k line (Ok (node, after)) other = rw e at (parts_of version o) in
    let q : AfterBelow version above k line node (Ok (below, rest)) other = subst (λ (r : Reading (Trees × List ℕ)). AfterBelow version above k line node r other) (sym (one_reading version b p.0 p.1.0)) p.1.1 in
    subst (λ (r : Reading (Trees × List ℕ)). AfterBeside node below r other) (sym (one_reading version s q.0 q.1.0)) q.1.1
