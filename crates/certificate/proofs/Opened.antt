-- One node after another of a tree, where branches are open, and the whole text that its nodes make.
use Rattle.std.proofs.Common.{◌≡◌, ℕ, zero, suc, ◌+◌, ◌-◌, ◌≤◌, ◌<◌, List, [], ◌∷◌, ◌++◌, length, reverse, Ok, Err, refl, sym, ap, subst, ◌∙◌, arith, append_assoc, add-zero}
use Rattle.std.proofs.lemmas.List.{length-reverse, append-nil}
use Rattle.line_text.specs.Results.{◌>>=◌}
use Rattle.certificate.specs.declared.fault.CertTextError.{CertTextError}
use Rattle.certificate.specs.declared.fault.CertTextError.TheVariants.{At, OutOfMemory}
use Rattle.certificate.specs.declared.fault.SourceFault.{SourceFault}
use Rattle.certificate.specs.declared.fault.SourceFault.TheVariants.{Read, TooLong, Text}
use Rattle.certificate.specs.declared.node.Node.{Node}
use Rattle.certificate.specs.declared.node.Node.TheVariants.{Branch, Leaf}
use Rattle.certificate.specs.Lines.{node_lines, lines, total_lines}
use Rattle.certificate.specs.Trees.{Trees, children, preorder, trees_of}
use Rattle.certificate.specs.Reading.{Reading, end_at, text_node, low_at, ReadsTrees, wrong_node, certificate_of, Reads}
use Rattle.certificate.specs.Nodes.{nodes_in}
use Rattle.certificate.specs.Sources.{Says, Fails, IsFaultOn}
use Rattle.certificate.specs.Opened.{with_front, ReadsLevels, ended, ReadsRest, in_front, certificate_with, still_due, Gives, TakesChild, IsRestFault}
use Rattle.certificate.proofs.NodeLoop.{closed, grown, snoc, begins}
use Rattle.certificate.proofs.TreeLists.{trees_of-preorder}
use Rattle.certificate.proofs.TreeLaws.{trees_take}
use Rattle.certificate.specs.declared.version.Version.{Version}

-- ---- branches without a child to come

pub reopened : (version : Version) (due : List ℕ) (line : ℕ) (text : List ℕ) (nodes : Reading (List Node × List ℕ)) → ReadsLevels version (still_due due) line text nodes → ReadsLevels version due line text nodes
reopened version [] line text nodes h = h
reopened version (zero ∷ above) line text nodes h = closed version above line text nodes (reopened version above line text nodes h)
reopened version (suc k ∷ above) line text nodes h = h

-- the innermost branch is closed
pub still_due-closed : (due above : List ℕ) (count : ℕ) → count ≤ 0 → due ≡ above ++ count ∷ [] → still_due (reverse due) ≡ still_due (reverse above)
still_due-closed due above count nothing e =
    let none : count ≡ 0 = omega arith in
    ap (λ (ks : List ℕ). still_due (reverse ks)) e ∙ ap still_due (snoc above count) ∙ ap (λ (k : ℕ). still_due (k ∷ reverse above)) none

-- it has a child to come
pub still_due-open : (due above : List ℕ) (count : ℕ) → 0 < count → due ≡ above ++ count ∷ [] → still_due (reverse due) ≡ count ∷ reverse above
still_due-open due above count some e =
    let more : count ≡ suc (count - 1) = omega arith in
    ap (λ (ks : List ℕ). still_due (reverse ks)) e ∙ ap still_due (snoc above count) ∙ ap (λ (k : ℕ). still_due (k ∷ reverse above)) more ∙ ap (λ (k : ℕ). k ∷ reverse above) (sym more)

pub still_due-none : (due : List ℕ) → due ≡ [] → still_due (reverse due) ≡ []
still_due-none due e = ap (λ (ks : List ℕ). still_due (reverse ks)) e

-- ---- the end

pub no_more : (version : Version) (Before : List ℕ → Type 0) (due : List ℕ) (line : ℕ) → still_due (reverse due) ≡ [] → Before [] → Gives version Before due line (Ok [])
no_more version Before due line e left =
    let levels : ReadsLevels version (still_due (reverse due)) line [] (Ok ([], [])) = rw e refl in
    ([], (left, (Ok ([], []), (reopened version (reverse due) line [] (Ok ([], [])) levels, refl))))

trailing : (line : ℕ) (text : List ℕ) (fault : CertTextError) → end_at line text ≡ Err fault → Err fault ≡ ended line (Ok ([], text))
trailing line text fault e =
    let here : end_at (line + 0) text ≡ Err fault = ap (λ (n : ℕ). end_at n text) (add-zero line) ∙ e in
    rw here refl

pub more_fails : (version : Version) (Before : List ℕ → Type 0) (due : List ℕ) (line : ℕ) → still_due (reverse due) ≡ [] → (fault : CertTextError) → Fails Before (end_at line) fault → Gives version Before due line (Err fault)
more_fails version Before due line e fault f =
    let levels : ReadsLevels version (still_due (reverse due)) line f.0 (Ok ([], f.0)) = rw e refl in
    (f.0, (f.1.0, (Ok ([], f.0), (reopened version (reverse due) line f.0 (Ok ([], f.0)) levels, trailing line f.0 fault f.1.1))))

-- ---- the next node

-- where the text has to end behind a node and those after it
end_moves : (line : ℕ) (node : Node) (nodes : List Node) (rest : List ℕ)
    → ended line (Ok (node ∷ nodes, rest)) ≡ in_front node (ended (line + node_lines node) (Ok (nodes, rest)))
end_moves line node nodes rest =
    let same : line + (node_lines node + total_lines nodes) ≡ line + node_lines node + total_lines nodes = omega arith in
    rw same (elim (end_at (line + node_lines node + total_lines nodes) rest) as (λ e. (e >>= λ _. Ok (node ∷ nodes)) ≡ in_front node (e >>= λ _. Ok nodes)) [ Ok u ↦ refl | Err fault ↦ refl ])

moved : (line : ℕ) (node : Node) (nodes : Reading (List Node × List ℕ)) → ended line (with_front (node ∷ []) nodes) ≡ in_front node (ended (line + node_lines node) nodes)
moved line node (Ok x) = end_moves line node x.0 x.1
moved line node (Err fault) = refl

module _ (Before After : List ℕ → Type 0) (due mid new : List ℕ) (count line : ℕ) (node : Node)
    (some : 0 < count) (was : still_due (reverse due) ≡ count ∷ reverse mid) (is : new ≡ (mid ++ (count - 1) ∷ []) ++ children node ∷ []) where
  turned : reverse new ≡ children node ∷ (count - 1) ∷ reverse mid
  turned = ap reverse is ∙ snoc (mid ++ (count - 1) ∷ []) (children node) ∙ ap (λ (ks : List ℕ). children node ∷ ks) (snoc mid (count - 1))

  opened : still_due (reverse due) ≡ suc (count - 1) ∷ reverse mid
  opened =
      let more : count ≡ suc (count - 1) = omega (arith, some) in
      was ∙ ap (λ (k : ℕ). k ∷ reverse mid) more

  pub takes_child : TakesChild due new node
  takes_child = record { count = count - 1; above = reverse mid; was = opened; is = turned }

  pub node_next : (version : Version) → Says Before After (text_node version (length mid) line) node → (read : Reading (List Node)) → Gives version After new (line + node_lines node) read → Gives version Before due line (in_front node read)
  node_next version said read g =
      let t = said g.0 g.1.0 in
      let nodes = g.1.1.0 in
      let here : text_node version (length (reverse mid)) line t.0 ≡ Ok (node, g.0) = ap (λ (d : ℕ). text_node version d line t.0) (length-reverse mid) ∙ t.1.1 in
      let further : ReadsLevels version (children node ∷ (count - 1) ∷ reverse mid) (line + node_lines node) g.0 g.1.1.0 = subst (λ (ks : List ℕ). ReadsLevels version ks (line + node_lines node) g.0 g.1.1.0) turned g.1.1.1.0 in
      let levels = grown version (count - 1) (reverse mid) line t.0 node g.0 here g.1.1.0 further in
      let all = reopened version (reverse due) line t.0 (with_front (node ∷ []) g.1.1.0) (subst (λ (ks : List ℕ). ReadsLevels version ks line t.0 (with_front (node ∷ []) g.1.1.0)) (sym opened) levels) in
      (t.0, (t.1.0, (with_front (node ∷ []) g.1.1.0, (all, ap (in_front node) g.1.1.1.1 ∙ sym (moved line node g.1.1.0)))))

pub node_fails : (version : Version) (Before : List ℕ → Type 0) (due mid : List ℕ) (count line : ℕ) → 0 < count → still_due (reverse due) ≡ count ∷ reverse mid
    → (fault : CertTextError) → Fails Before (text_node version (length mid) line) fault → Gives version Before due line (Err fault)
node_fails version Before due mid count line some was fault f =
    let more : count ≡ suc (count - 1) = omega (arith, some) in
    let here : text_node version (length (reverse mid)) line f.0 ≡ Err fault = ap (λ (d : ℕ). text_node version d line f.0) (length-reverse mid) ∙ f.1.1 in
    let levels : ReadsLevels version (suc (count - 1) ∷ reverse mid) line f.0 (Err fault) = (Err fault, (wrong_node (length (reverse mid)) (count - 1) line f.0 fault here, refl)) in
    let all = reopened version (reverse due) line f.0 (Err fault) (subst (λ (ks : List ℕ). ReadsLevels version ks line f.0 (Err fault)) (sym (was ∙ ap (λ (k : ℕ). k ∷ reverse mid) more)) levels) in
    (f.0, (f.1.0, (Err fault, (all, refl))))

-- a fault of a part is one of the rest
pub rest_of_part : (version : Version) {A : Type 0} (e : SourceFault) (Stops Others : SourceFault → Type 0) (Before : List ℕ → Type 0) (at : List ℕ → Reading A) (due : List ℕ) (line : ℕ)
    → ((x : SourceFault) → Stops x → Others x) → ((fault : CertTextError) → Fails Before at fault → Gives version Before due line (Err fault))
    → IsFaultOn Stops Before at e → IsRestFault version Others Before due line e
rest_of_part version Read Stops Others Before at due line stop fails h = stop Read h
rest_of_part version TooLong Stops Others Before at due line stop fails h = stop TooLong h
rest_of_part version (Text OutOfMemory) Stops Others Before at due line stop fails h = stop (Text OutOfMemory) h
rest_of_part version (Text (At at-line fault)) Stops Others Before at due line stop fails h = fails (At at-line fault) h

-- ---- the whole text

whole_nodes : (version : Version) (low : ℕ) (trees : Reading (Trees × List ℕ)) (body : List ℕ) → ReadsTrees version 0 1 3 body trees → certificate_with version low (ended 3 (nodes_in trees)) ≡ certificate_of version low trees
whole_nodes version low (Err fault) body r = refl
whole_nodes version low (Ok t) body r =
    let taken = trees_take version r (omega arith) in
    let same : trees_of (preorder t.0) ≡ t.0 = trees_of-preorder 1 t.0 taken.trees in
    elim (end_at (3 + lines t.0) t.1) as (λ e. certificate_with version low (e >>= λ _. Ok (preorder t.0)) ≡ (e >>= λ _. Ok (record { version = version; low = low; tree = t.0 })))
    [ Ok u ↦ ap (λ (x : Trees). Ok (record { version = version; low = low; tree = x })) same | Err fault ↦ refl ]

unfronted : (nodes : Reading (List Node × List ℕ)) → nodes ≡ with_front [] nodes
unfronted (Ok x) = refl
unfronted (Err fault) = refl

-- the nodes from line 3 on make what the whole text gives
pub whole_text : (version : Version) (text body : List ℕ) (low : ℕ) (read : Reading (List Node)) → low_at text ≡ Ok ((version, low), body) → ReadsRest version (1 ∷ []) 3 body read → Reads text (certificate_with version low read)
whole_text version text body low read e rest =
    let trees = begins version body rest.0 rest.1.0 in
    let nodes_are : rest.0 ≡ nodes_in trees.0 = unfronted rest.0 ∙ trees.1.1 in
    let given : certificate_with version low read ≡ certificate_of version low trees.0 = ap (certificate_with version low) (rest.1.1 ∙ ap (ended 3) nodes_are) ∙ whole_nodes version low trees.0 body trees.1.0 in
    rw e (trees.0, (trees.1.0, given))

-- ---- all nodes

-- nodes in front of those that are left
abbrev pub behind : List Node → Reading (List Node) → Reading (List Node)
behind front read = read >>= λ nodes. Ok (front ++ nodes)

-- Whatever is left, with the nodes so far in front it is what was left at first.
abbrev pub IsGivenSoFar : Version → (List ℕ → Type 0) → Version → (List ℕ → Type 0) → (first due : List ℕ) (line line_now : ℕ) (front : List Node) → Type 0
IsGivenSoFar version Before version_now Now first due line line_now front =
    (read : Reading (List Node)) → Gives version_now Now due line_now read → Gives version Before first line (behind front read)

behind_none : (read : Reading (List Node)) → behind [] read ≡ read
behind_none (Ok nodes) = refl
behind_none (Err fault) = refl

pub given_first : (version : Version) (Before : List ℕ → Type 0) (first due : List ℕ) (line : ℕ) → due ≡ first → IsGivenSoFar version Before version Before first due line line []
given_first version Before first due line e read g = rw behind_none (subst (λ (ks : List ℕ). Gives version Before ks line read) e g)

behind_more : (front : List Node) (node : Node) (read : Reading (List Node)) → behind front (in_front node read) ≡ behind (front ++ node ∷ []) read
behind_more front node (Ok nodes) = ap Ok (sym (append_assoc front (node ∷ []) nodes))
behind_more front node (Err fault) = refl

pub given_more : (version : Version) (Before : List ℕ → Type 0) (version_now : Version) (Now : List ℕ → Type 0) (version_new : Version) (After : List ℕ → Type 0) (first due new : List ℕ) (line line_now line_new : ℕ) (front : List Node) (node : Node)
    → IsGivenSoFar version Before version_now Now first due line line_now front → ((read : Reading (List Node)) → Gives version_new After new line_new read → Gives version_now Now due line_now (in_front node read))
    → IsGivenSoFar version Before version_new After first new line line_new (front ++ node ∷ [])
given_more version Before version_now Now version_new After first due new line line_now line_new front node so_far next read g =
    subst (λ (r : Reading (List Node)). Gives version Before first line r) (behind_more front node read) (so_far (in_front node read) (next read g))

pub given_all : (version : Version) (Before : List ℕ → Type 0) (version_now : Version) (Now : List ℕ → Type 0) (first due : List ℕ) (line line_now : ℕ) (front : List Node)
    → IsGivenSoFar version Before version_now Now first due line line_now front → Gives version_now Now due line_now (Ok [])
    → Gives version Before first line (Ok front)
given_all version Before version_now Now first due line line_now front so_far g =
    subst (λ (ns : List Node). Gives version Before first line (Ok ns)) (append-nil front) (so_far (Ok []) g)

pub given_fault : (e : SourceFault) (Stops : SourceFault → Type 0) (version : Version) (Before : List ℕ → Type 0) (version_now : Version) (Now : List ℕ → Type 0) (first due : List ℕ) (line line_now : ℕ) (front : List Node)
    → IsGivenSoFar version Before version_now Now first due line line_now front → IsRestFault version_now Stops Now due line_now e → IsRestFault version Stops Before first line e
given_fault Read Stops version Before version_now Now first due line line_now front so_far h = h
given_fault TooLong Stops version Before version_now Now first due line line_now front so_far h = h
given_fault (Text OutOfMemory) Stops version Before version_now Now first due line line_now front so_far h = h
given_fault (Text (At at fault)) Stops version Before version_now Now first due line line_now front so_far h = so_far (Err (At at fault)) h

pub some_line : (node : Node) → 0 < node_lines node
some_line (Branch branch) = omega arith
some_line (Leaf leaf) = omega arith
