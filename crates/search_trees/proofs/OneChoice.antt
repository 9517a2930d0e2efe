-- In a tree just one choice stands at each name.
use Rattle.std.proofs.Common.{◌≡◌, ℕ, zero, suc, ◌<◌, ◌≤◌, List, [], ◌∷◌, ◌++◌, length, get_or, refl, sym, ap, subst, ◌∙◌, inl, inr, ◌⊎◌, arith}
use Rattle.std.specs.List.{flat_map, Contains}
use Rattle.std.proofs.lemmas.Bool.{cases_lt, cases_eq}
use Rattle.std.proofs.lemmas.List.{get_or_default, length-append}
use Rattle.std.proofs.lemmas.List.FromFn.{length-map-range_with_len, get_or-map-range_with_len}
use Rattle.std.proofs.lemmas.List.Elements.{Contains-append_cases, Contains-append_left}
use Rattle.std.proofs.lemmas.List.Sorted.{Contains-permutation}
use Rattle.ttp_model.specs.Instance.{Instance}
use Rattle.tt_choice.specs.Choice.{Choice}
use Rattle.tt_choice.specs.Branches.{root_choice}
use Rattle.certificate.specs.Trees.{children}
use Rattle.search_trees.specs.declared.piece.Piece.{Piece}
use Rattle.search_trees.specs.Name.{Name, root_name, child_name}
use Rattle.search_trees.specs.Pieces.{names_below, names_of, all_below, StandsAt, choice_below}
use Rattle.search_trees.specs.Pieces.StandsAt.{at_root, at_child}
use Rattle.search_trees.specs.Account.{IsWholeTree}
use Rattle.search_trees.proofs.Once.{no_child_is_root, child_parts, weighs_one}
use Rattle.search_trees.proofs.Weights.{weigh, weigh-append, weigh-map, weigh-get_or, weigh-two, only, only-same, contained}

contains_behind : {A : Type 0} (y : A) (xs : List A) (x : A) → Contains xs x → Contains (y ∷ xs) x
contains_behind y xs x h = (suc h.0, omega (arith, h.1), h.2)

-- an element of joined lists is one of them
record IsFrom {A B : Type 0} (f : A → List B) (xs : List A) (y : B) : Type 0 where
  source : A
  there : Contains xs source
  within : Contains (f source) y

from_joined : {A B : Type 0} (f : A → List B) (xs : List A) (y : B) → Contains (flat_map f xs) y → IsFrom f xs y
from_joined f [] y h = absurd (omega (arith, h.1))
from_joined f (x ∷ xs) y h =
    elim (Contains-append_cases (f x) (flat_map f xs) y h) [
      | inl here ↦ record { source = x; there = (0, omega arith, refl); within = here }
      | inr behind ↦
          let r = from_joined f xs y behind in
          record { source = r.source; there = contains_behind x xs r.source r.there; within = r.within }
    ]

-- a piece's name is among the names of pieces
pub piece_named : (pieces : List Piece) (piece : Piece) → Contains pieces piece → Contains (names_of pieces) piece.name
piece_named pieces piece h =
    let le = weigh-get_or (λ (x : Piece). only piece.name x.name) pieces h.0 piece h.1 in
    let one : only piece.name (get_or pieces h.0 piece).name ≡ 1 = ap (λ (x : Piece). only piece.name x.name) h.2 ∙ only-same piece.name in
    contained piece.name (names_of pieces) (omega (arith, le, one, weigh-map (only piece.name) (λ (x : Piece). x.name) pieces))

-- the piece that a name stands below, and its number there
record IsChild (pieces : List Piece) (name : Name) : Type 0 where
  parent : Piece
  number : ℕ
  there : Contains pieces parent
  inside : number < children parent.node
  is : name ≡ child_name parent.name number

child_of : (pieces : List Piece) (name : Name) → Contains (all_below pieces) name → IsChild pieces name
child_of pieces name h =
    let r = from_joined names_below pieces name h in
    let k = r.within.0 in
    let count = children r.source.node in
    let inside : k < count = omega (arith, r.within.1, length-map-range_with_len (child_name r.source.name) 0 count) in
    record {
      parent = r.source;
      number = k;
      there = r.there;
      inside = inside;
      is = sym r.within.2 ∙ get_or-map-range_with_len (child_name r.source.name) 0 count k k name inside (omega arith);
    }

-- a choice, and that it stands at a name
record Standing (i : Instance) (pieces : List Piece) (name : Name) : Type 0 where
  choice : Choice
  stands : StandsAt i pieces name choice

root_stands : (i : Instance) (pieces : List Piece) (name : Name) → name ≡ root_name → Standing i pieces name
root_stands i pieces name e =
    let P : Name → Type 0 = λ n. StandsAt i pieces n (root_choice i) in
    record { choice = root_choice i; stands = subst P (sym e) at_root }

child_stands : (i : Instance) (pieces : List Piece) (name : Name) (child : IsChild pieces name) → Standing i pieces child.parent.name → Standing i pieces name
child_stands i pieces name child above =
    let c = choice_below i above.choice child.parent.node child.number in
    let P : Name → Type 0 = λ n. StandsAt i pieces n c in
    record { choice = c; stands = subst P (sym child.is) (at_child child.parent above.choice child.number child.there above.stands child.inside) }

no_steps : (name : Name) → length name ≤ 0 → name ≡ root_name
no_steps [] h = refl
no_steps (x ∷ xs) h = absurd (omega (arith, h))

root_or_below : (pieces : List Piece) (name : Name) → Contains (root_name ∷ all_below pieces) name → (name ≡ root_name) ⊎ Contains (all_below pieces) name
root_or_below pieces name (zero, inside, is) = inl (sym is)
root_or_below pieces name (suc k, inside, is) = inr (k, omega (arith, inside), is)

some_stands : (i : Instance) (pieces : List Piece) (unworked : List Name) → IsWholeTree pieces unworked → (n : ℕ) (name : Name) → length name ≤ n
    → Contains (names_of pieces ++ unworked) name → Standing i pieces name
some_stands i pieces unworked tree zero name short h =
    root_stands i pieces name (no_steps name short)
some_stands i pieces unworked tree (suc n) name short h =
    let moved = Contains-permutation (names_of pieces ++ unworked) (root_name ∷ all_below pieces) name tree h in
    elim (root_or_below pieces name moved) [
      | inl e ↦ root_stands i pieces name e
      | inr below ↦
          let child = child_of pieces name below in
          let shorter : length child.parent.name ≤ n = omega (arith, short, ap length child.is, length-append child.parent.name (child.number ∷ [])) in
          let parent = Contains-append_left (names_of pieces) unworked child.parent.name (piece_named pieces child.parent child.there) in
          child_stands i pieces name child (some_stands i pieces unworked tree n child.parent.name shorter parent)
    ]

pub stands_somehow : (i : Instance) (pieces : List Piece) (unworked : List Name) (name : Name) → IsWholeTree pieces unworked
    → Contains (names_of pieces ++ unworked) name → (c : Choice) × StandsAt i pieces name c
stands_somehow i pieces unworked name tree h =
    let r = some_stands i pieces unworked tree (length name) name (omega arith) h in
    (r.choice, r.stands)

-- no two pieces have one name
abbrev IsNamedOnce : List Piece → Type 0
IsNamedOnce pieces = (name : Name) → weigh (only name) (names_of pieces) ≤ 1

two_places : (pieces : List Piece) (a b : Piece) (j k : ℕ) → IsNamedOnce pieces → j < k → k < length pieces → get_or pieces j a ≡ a
    → get_or pieces k b ≡ b → a.name ≡ b.name → a ≡ b
two_places pieces a b j k once lt h first second e =
    let g : Piece → ℕ = λ x. only a.name x.name in
    let two = weigh-two g pieces j k a lt h in
    let one : g (get_or pieces j a) ≡ 1 = ap g first ∙ only-same a.name in
    let other : g (get_or pieces k a) ≡ 1 = ap g (get_or_default pieces k a b h ∙ second) ∙ (ap (only a.name) (sym e) ∙ only-same a.name) in
    absurd (omega (arith, two, one, other, once a.name, weigh-map (only a.name) (λ (x : Piece). x.name) pieces))

one_piece : (pieces : List Piece) (a b : Piece) → IsNamedOnce pieces → Contains pieces a → Contains pieces b → a.name ≡ b.name → a ≡ b
one_piece pieces a b once x y e =
    elim (cases_eq x.0 y.0) [
      | inl same ↦
          let P : ℕ → Type 0 = λ k. get_or pieces k b ≡ b in
          sym x.2 ∙ (get_or_default pieces x.0 a b x.1 ∙ subst P (sym same) y.2)
      | inr ne ↦ elim (cases_lt x.0 y.0) [
        | inl lt ↦ two_places pieces a b x.0 y.0 once lt y.1 x.2 y.2 e
        | inr le ↦ sym (two_places pieces b a y.0 x.0 once (omega (arith, le, ne)) x.1 y.2 x.2 (sym e))
      ]
    ]

only_one : (i : Instance) (pieces : List Piece) → IsNamedOnce pieces → (a b : Name) (c d : Choice) → StandsAt i pieces a c → StandsAt i pieces b d
    → a ≡ b → c ≡ d
only_one i pieces once _ _ _ _ at_root at_root e = refl
only_one i pieces once _ _ _ _ at_root (at_child q d k there stands inside) e = absurd (no_child_is_root q.name k (sym e))
only_one i pieces once _ _ _ _ (at_child p c j there stands inside) at_root e = absurd (no_child_is_root p.name j e)
only_one i pieces once _ _ _ _ (at_child p c j pt ps pi) (at_child q d k qt qs qi) e =
    let parts = child_parts p.name q.name j k e in
    let same : p ≡ q = one_piece pieces p q once pt qt parts.0 in
    let choice : c ≡ d = only_one i pieces once p.name q.name c d ps qs parts.0 in
    ap (λ x. choice_below i x p.node j) choice ∙ (ap (λ (x : Piece). choice_below i d x.node j) same ∙ ap (choice_below i d q.node) parts.1)

named_once : (pieces : List Piece) (unworked : List Name) → IsWholeTree pieces unworked → IsNamedOnce pieces
named_once pieces unworked tree name =
    omega (arith, weighs_one pieces unworked tree (length name) name (omega arith), weigh-append (only name) (names_of pieces) unworked)

pub stands_alone : (i : Instance) (pieces : List Piece) (unworked : List Name) (name : Name) (c d : Choice) → IsWholeTree pieces unworked
    → StandsAt i pieces name c → StandsAt i pieces name d → c ≡ d
stands_alone i pieces unworked name c d tree one other = only_one i pieces (named_once pieces unworked tree) name name c d one other refl

-- more pieces leave what stands at a name
pub stands_still : (i : Instance) (few many : List Piece) → ((x : Piece) → Contains few x → Contains many x) → (name : Name) (c : Choice)
    → StandsAt i few name c → StandsAt i many name c
stands_still i few many more _ _ at_root = at_root
stands_still i few many more _ _ (at_child piece c k there stands inside) =
    at_child piece c k (more piece there) (stands_still i few many more piece.name c stands) inside
