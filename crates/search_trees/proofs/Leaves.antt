-- Leaves for all open names close a tree, and keep what is right.
use Rattle.std.proofs.Common.{◌≡◌, ℕ, ◌<◌, List, [], ◌∷◌, ◌++◌, inl, inr, refl, sym, ap, subst, ◌∙◌, map, arith, All, Contains}
use Rattle.std.specs.List.{range_with_len}
use Rattle.std.specs.List.Sorted.{IsPermutation}
use Rattle.std.proofs.lemmas.Grind.{flat_map-append}
use Rattle.std.proofs.lemmas.List.{map-append, append-nil}
use Rattle.std.proofs.lemmas.List.Elements.{All-head, All-tail, All-contains, Contains-append_cases}
use Rattle.ttp_model.specs.Instance.{Instance}
use Rattle.tt_choice.specs.Choice.{Choice}
use Rattle.certificate.specs.declared.node.Node.{Node}
use Rattle.certificate.specs.Trees.{children}
use Rattle.search_trees.specs.declared.piece.Piece.{Piece}
use Rattle.search_trees.specs.Name.{Name, root_name, child_name}
use Rattle.search_trees.specs.Pieces.{names_of, names_below, all_below, IsRight, StandsAt, at_root, at_child, AreRight}
use Rattle.search_trees.specs.Account.{IsWholeTree}
use Rattle.search_trees.specs.Gathering.{IsLeafPiece}

nothing_below : (pieces : List Piece) → All IsLeafPiece pieces → all_below pieces ≡ []
nothing_below [] leaves = refl
nothing_below (p ∷ pieces) leaves =
    let leaf = All-head IsLeafPiece p pieces leaves in
    let none : names_below p ≡ [] = ap (λ (n : Node). map (child_name p.name) (range_with_len 0 (children n))) leaf.is in
    ap (λ (names : List Name). names ++ all_below pieces) none ∙ nothing_below pieces (All-tail IsLeafPiece p pieces leaves)

-- leaves for all open names make the tree whole
pub closed_whole : (pieces closed : List Piece) → IsWholeTree pieces (names_of closed) → All IsLeafPiece closed → IsWholeTree (pieces ++ closed) []
closed_whole pieces closed whole leaves =
    let names : names_of (pieces ++ closed) ++ [] ≡ names_of pieces ++ names_of closed = append-nil (names_of (pieces ++ closed))
    ∙ map-append (λ (p : Piece). p.name) pieces closed in
    let below : all_below (pieces ++ closed) ≡ all_below pieces =
    flat_map-append names_below pieces closed ∙ ap (λ (more : List Name). all_below pieces ++ more) (nothing_below closed leaves)
    ∙ append-nil (all_below pieces) in
    subst (λ (all : List Name). IsPermutation all (root_name ∷ all_below (pieces ++ closed))) (sym names)
    (subst (λ (all : List Name). IsPermutation (names_of pieces ++ names_of closed) (root_name ∷ all)) (sym below) whole)

no_child : (p : Piece) (k : ℕ) → IsLeafPiece p → k < children p.node → ⊥
no_child p k leaf lt =
    let none : children p.node ≡ 0 = ap children leaf.is in
    omega (arith, none, lt)

-- below leaves nothing stands
stands_above : (i : Instance) (pieces closed : List Piece) → All IsLeafPiece closed → {name : Name} {c : Choice}
    → StandsAt i (pieces ++ closed) name c → StandsAt i pieces name c
stands_above i pieces closed leaves at_root = at_root
stands_above i pieces closed leaves (at_child p c k there stands lt) = elim (Contains-append_cases pieces closed p there) [
  | inl worked ↦ at_child p c k worked (stands_above i pieces closed leaves stands) lt
  | inr leaf ↦ absurd (no_child p k (All-contains IsLeafPiece closed p leaves leaf) lt)
]

-- pieces that are right, and leaves that are right where their names stand, are right together
pub closed_right : (i : Instance) (pieces closed : List Piece) → All IsLeafPiece closed → AreRight i pieces
    → ((p : Piece) (c : Choice) → Contains closed p → StandsAt i pieces p.name c → IsRight i c p.node) → AreRight i (pieces ++ closed)
closed_right i pieces closed leaves right own p c there stands =
    let above : StandsAt i pieces p.name c = stands_above i pieces closed leaves stands in
    elim (Contains-append_cases pieces closed p there) [
      | inl worked ↦ right p c worked above
      | inr leaf ↦ own p c leaf above
    ]
