-- One node more of a certificate that is gone through.
use Rattle.std.proofs.Common.{◌≡◌, ℕ, ◌+◌, ◌⊎◌, List, [], ◌∷◌, ◌++◌, length, arith, inl, inr, refl, sym, subst, ◌∙◌}
use Rattle.std.proofs.lemmas.List.{append_assoc}
use Rattle.ttp_model.specs.Instance.{Instance}
use Rattle.tt_choice.specs.Choice.{Choice}
use Rattle.tt_choice.specs.Branches.{root_choice}
use Rattle.certificate.specs.declared.branch.Branch.{Branch}
use Rattle.certificate.specs.declared.node.Node.{Node}
use Rattle.certificate.specs.declared.node.Node.TheVariants as node
use Rattle.certificate.specs.Trees.{Trees, none, children, first_trees, trees_after, trees_of}
use Rattle.certificate.specs.Lines.{node_lines, lines}
use Rattle.certificate.proofs.TreeLists.{total_lines-append}
use Rattle.tree_check.specs.declared.fault.NodeFault.{NodeFault}
use Rattle.tree_check.specs.declared.fault.CertFault.{CertFault}
use Rattle.tree_check.specs.declared.fault.CertFault.TheVariants.{LowTooGreat, At, OutOfMemory}
use Rattle.tree_check.specs.Proofs.{choices_below, Suits, AreProofs}
use Rattle.tree_check.specs.Faults.{IsNodeFault, IsFirstTreeFault, told_line}
use Rattle.tree_check.specs.Seen.{ReadLeaf, TellsNode, TellsBranch, Closes, AllClose, IsFirstHeldFault, TellsFirst, TellsHeld, line_behind, TellsSeen, IsHeld, IsSeen}
use Rattle.tree_check.proofs.Trees.{below_count, AreProofs-split, IsFirstFault-split}

-- ---- leaves that wait

pub later_held : (i : Instance) (low : ℕ) (h : ReadLeaf) (held : List ReadLeaf) (fault : CertFault) → Closes i low h → TellsHeld i low held fault
    → TellsHeld i low (h ∷ held) fault
later_held i low h held LowTooGreat closes tells = tells
later_held i low h held (At at fault) closes tells = (tells.0, tells.1, inr (closes, tells.2))
later_held i low h held OutOfMemory closes tells = tt

pub first_held : (i : Instance) (low : ℕ) (h : ReadLeaf) (held : List ReadLeaf) (fault : CertFault) → IsHeld i h
    → TellsNode i low h.choice (node.Leaf h.leaf) h.line fault → TellsHeld i low (h ∷ held) fault
first_held i low h held LowTooGreat ok tells = absurd tells
first_held i low h held (At at fault) ok tells =
    let here = tells h.line ok.line in
    (here.0, here.1, inl here.2)
first_held i low h held OutOfMemory ok tells = tt

-- ---- what was seen so far

-- Nothing was seen, and the tree of the choice of all plans is to follow.
pub seen_none : (i : Instance) (low : ℕ) → IsSeen i low [] [] (root_choice i ∷ [])
seen_none i low = record {
  proofs = λ closed rest are. are;
  follows = λ closed rest at fault is. is;
  waits = λ rest at fault is. absurd is;
}

-- the nodes behind one are those that follow
behind_one : (seen : List Node) (n : Node) (rest : List Node) → (seen ++ n ∷ []) ++ rest ≡ seen ++ n ∷ rest
behind_one seen n rest = append_assoc seen (n ∷ []) rest

pub line_more : (seen : List Node) (n : Node) → line_behind (seen ++ n ∷ []) ≡ line_behind seen + node_lines n
line_more seen n = omega (arith, total_lines-append seen (n ∷ []))

-- the first fault is one of so many trees, or where those are proofs, of the others
abbrev IsFaultInParts : Instance → ℕ → List Choice → List Choice → Trees → ℕ → ℕ → NodeFault → ℕ → Type 0
IsFaultInParts i low below left trees line at fault k =
    IsFirstTreeFault i low below (first_trees k trees) line at fault
    ⊎ (AreProofs i low below (first_trees k trees) × IsFirstTreeFault i low left (trees_after k trees) (line + lines (first_trees k trees)) at fault)

-- A node that suits its choice leads to the choices below it.
pub seen_node : (i : Instance) (low : ℕ) (seen : List Node) (held : List ReadLeaf) (c : Choice) (left : List Choice) (n : Node)
    → IsSeen i low seen held (c ∷ left) → Suits i low c n → IsSeen i low (seen ++ n ∷ []) held (choices_below i c n ++ left)
unfolding trees_of
seen_node i low seen held c left n s suits =
    let below = choices_below i c n in
    let count : length below ≡ children n = sym (below_count i low c n suits) in
    record {
      proofs = λ closed rest are.
          let parts = subst (λ (k : ℕ). AreProofs i low below (first_trees k (trees_of rest)) × AreProofs i low left (trees_after k (trees_of rest)))
          count (AreProofs-split i low below left (trees_of rest) are) in
          rw (behind_one seen n rest) (s.proofs closed (n ∷ rest) (suits, parts));
      follows = λ closed rest at fault is.
          let line = line_behind seen + node_lines n in
          let parts = IsFirstFault-split i low below left (trees_of rest) line at fault (rw (line_more seen n) at is) in
          rw (behind_one seen n rest) (s.follows closed (n ∷ rest) at fault (inr (
            suits,
            subst (IsFaultInParts i low below left (trees_of rest) line at fault) count parts,
          )));
      waits = λ rest at fault is. rw (behind_one seen n rest) (s.waits (n ∷ rest) at fault is);
    }

-- ---- leaves that wait

close_first : (i : Instance) (low : ℕ) (held : List ReadLeaf) (h : ReadLeaf) → AllClose i low (held ++ h ∷ []) → AllClose i low held × Closes i low h
close_first i low [] h all = (tt, all.0)
close_first i low (first ∷ held) h all =
    let rest = close_first i low held h all.1 in
    ((all.0, rest.0), rest.1)

-- the first fault is one of those before the last, or where they close, of the last
wait_first : (i : Instance) (low : ℕ) (held : List ReadLeaf) (h : ReadLeaf) (at : ℕ) (fault : NodeFault)
    → IsFirstHeldFault i low (held ++ h ∷ []) at fault
    → IsFirstHeldFault i low held at fault ⊎ (AllClose i low held × IsNodeFault i low h.choice (node.Leaf h.leaf) h.line at fault)
wait_first i low [] h at fault is = elim is [
  | inl own ↦ inr (tt, own)
  | inr later ↦ absurd later.1
]
wait_first i low (first ∷ held) h at fault is = elim is [
  | inl own ↦ inl (inl own)
  | inr later ↦ elim (wait_first i low held h at fault later.1) [
    | inl before ↦ inl (inr (later.0, before))
    | inr last ↦ inr ((later.0, last.0), last.1)
  ]
]

-- A leaf waits.
pub seen_leaf : (i : Instance) (low : ℕ) (seen : List Node) (held : List ReadLeaf) (h : ReadLeaf) (left : List Choice)
    → IsSeen i low seen held (h.choice ∷ left) → h.line ≡ line_behind seen → IsSeen i low (seen ++ node.Leaf h.leaf ∷ []) (held ++ h ∷ []) left
unfolding trees_of first_trees trees_after
seen_leaf i low seen held h left s here =
    let n = node.Leaf h.leaf in
    record {
      proofs = λ closed rest are.
          let each = close_first i low held h closed in
          rw (behind_one seen n rest) (s.proofs each.0 (n ∷ rest) (each.1, (tt, are)));
      follows = λ closed rest at fault is.
          let each = close_first i low held h closed in
          let line : line_behind seen + node_lines n + lines none ≡ line_behind (seen ++ n ∷ []) = omega (arith, line_more seen n) in
          rw (behind_one seen n rest) (s.follows each.0 (n ∷ rest) at fault (inr (each.1, inr (tt, rw line is))));
      waits = λ rest at fault is. rw (behind_one seen n rest) (elim (wait_first i low held h at fault is) [
        | inl before ↦ s.waits (n ∷ rest) at fault before
        | inr last ↦ s.follows last.0 (n ∷ rest) at fault (inl (subst (λ (l : ℕ). IsNodeFault i low h.choice n l at fault) here last.1))
      ]);
    }

pub close_behind : (i : Instance) (low : ℕ) (front held : List ReadLeaf) → AllClose i low front → AllClose i low held → AllClose i low (front ++ held)
close_behind i low [] held closed all = all
close_behind i low (h ∷ front) held closed all = (closed.0, close_behind i low front held closed.1 all)

pub first_behind : (i : Instance) (low : ℕ) (front held : List ReadLeaf) (at : ℕ) (fault : NodeFault) → AllClose i low front
    → IsFirstHeldFault i low held at fault → IsFirstHeldFault i low (front ++ held) at fault
first_behind i low [] held at fault closed is = is
first_behind i low (h ∷ front) held at fault closed is = inr (closed.0, first_behind i low front held at fault closed.1 is)

-- Those in front close, and wait no more.
pub seen_judged : (i : Instance) (low : ℕ) (seen : List Node) (front held : List ReadLeaf) (left : List Choice) → AllClose i low front
    → IsSeen i low seen (front ++ held) left → IsSeen i low seen held left
seen_judged i low seen front held left closed s = record {
  proofs = λ all rest are. s.proofs (close_behind i low front held closed all) rest are;
  follows = λ all rest at fault is. s.follows (close_behind i low front held closed all) rest at fault is;
  waits = λ rest at fault is. s.waits rest at fault (first_behind i low front held at fault closed is);
}

-- ---- faults

-- a fault of what was seen stays the first where one node more is
pub later_told : (i : Instance) (low : ℕ) (seen : List Node) (n : Node) (fault : CertFault) → TellsSeen i low seen fault
    → TellsSeen i low (seen ++ n ∷ []) fault
later_told i low seen n fault tells = λ rest. subst (λ (ns : List Node). TellsFirst i low (trees_of ns) fault) (sym (behind_one seen n rest)) (tells (n ∷ rest))

-- where those close, the next node is at fault
pub node_fails : (i : Instance) (low : ℕ) (seen : List Node) (held : List ReadLeaf) (c : Choice) (left : List Choice) (n : Node) (line : ℕ)
    (fault : CertFault) → AllClose i low held → IsSeen i low seen held (c ∷ left) → line ≡ told_line (line_behind seen)
    → TellsNode i low c n line fault → TellsSeen i low (seen ++ n ∷ []) fault
unfolding trees_of
node_fails i low seen held c left n line LowTooGreat closed s is tells = absurd tells
node_fails i low seen held c left n line (At at fault) closed s is tells = λ rest.
    let here = tells (line_behind seen) is in
    (here.0, here.1, rw (behind_one seen n rest) (s.follows closed (n ∷ rest) here.0 fault (inl here.2)))
node_fails i low seen held c left n line OutOfMemory closed s is tells = λ rest. tt

-- a fault of a branch is one of the node
pub branch_tells : (i : Instance) (low : ℕ) (c : Choice) (branch : Branch) (line : ℕ) (fault : CertFault) → TellsBranch i c branch line fault
    → TellsNode i low c (node.Branch branch) line fault
branch_tells i low c branch line LowTooGreat tells = absurd tells
branch_tells i low c branch line (At at fault) tells = λ first is. (first, tells.0 ∙ is, (refl, tells.1))
branch_tells i low c branch line OutOfMemory tells = tt
