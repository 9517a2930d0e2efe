-- Pieces in the strict order of their names: those of a tree are, and such lists are told by their elements.
use Rattle.std.proofs.Common.{◌≡◌, ℕ, ◌+◌, ◌≤◌, List, [], ◌∷◌, ◌++◌, inl, inr, refl, sym, ap, subst, ◌∙◌, append_assoc, arith}
use Rattle.std.specs.List.{AllByRecursion as Each}
use Rattle.certificate.specs.Trees.{Trees, none, grow}
use Rattle.search_trees.specs.declared.piece.Piece.{Piece}
use Rattle.search_trees.specs.Name.{Name, child_name, root_name}
use Rattle.search_trees.specs.Trees.{pieces_below, pieces_of}
use Rattle.search_trees.specs.Order.{SortsBefore, Rises}
use Rattle.search_trees.proofs.Has.{Has, each_append, each_weaker, each_at}
use Rattle.search_trees.proofs.NameOrder.{own_before, sibling_before, before_both, not_itself}

-- a name at or below a child of this number or a later one
pub record IsUnder (name : Name) (k : ℕ) (piece : Piece) : Type 0 where
  pub index : ℕ
  pub rest : Name
  pub from : k ≤ index
  pub is : piece.name ≡ name ++ index ∷ rest

-- what stands below a child stands below the name
up : (name : Name) (k : ℕ) (piece : Piece) → IsUnder (child_name name k) 0 piece → IsUnder name k piece
up name k piece under = record {
  index = k;
  rest = under.index ∷ under.rest;
  from = omega arith;
  is = under.is ∙ append_assoc name (k ∷ []) (under.index ∷ under.rest);
}

later : (name : Name) (k : ℕ) (piece : Piece) → IsUnder name (k + 1) piece → IsUnder name k piece
later name k piece under = record { index = under.index; rest = under.rest; from = omega (arith, under.from); is = under.is }

pub all_under : (name : Name) (k : ℕ) (trees : Trees) → Each (IsUnder name k) (pieces_below name k trees)
all_under name k none = tt
all_under name k (grow node below beside) = (
  record { index = k; rest = []; from = omega arith; is = refl },
  each_append (IsUnder name k) (pieces_below (child_name name k) 0 below) (pieces_below name (k + 1) beside)
      (each_weaker (IsUnder (child_name name k) 0) (IsUnder name k) _ (up name k) (all_under (child_name name k) 0 below))
      (each_weaker (IsUnder name (k + 1)) (IsUnder name k) _ (later name k) (all_under name (k + 1) beside)),
)

-- the name goes before what stands below it
own_first : (name : Name) (k : ℕ) (piece : Piece) → IsUnder name k piece → SortsBefore name piece.name
own_first name k piece under = subst (SortsBefore name) (sym under.is) (own_before name under.index under.rest)

-- what stands below a child goes before what stands at later ones
below_first : (name : Name) (k : ℕ) (a b : Piece) → IsUnder (child_name name k) 0 a → IsUnder name (k + 1) b → SortsBefore a.name b.name
below_first name k a b below beside =
    let first = up name k a below in
    subst (λ (w : Name). SortsBefore w b.name) (sym (below.is ∙ append_assoc name (k ∷ []) (below.index ∷ below.rest)))
    (subst (SortsBefore (name ++ k ∷ (below.index ∷ below.rest))) (sym beside.is)
    (sibling_before name k beside.index (below.index ∷ below.rest) beside.rest (omega (arith, beside.from))))

child_first : (name : Name) (k : ℕ) (b : Piece) → IsUnder name (k + 1) b → SortsBefore (child_name name k) b.name
child_first name k b beside =
    subst (SortsBefore (child_name name k)) (sym beside.is) (sibling_before name k beside.index [] beside.rest (omega (arith, beside.from)))

abbrev AreBefore : List Piece → Piece → Type 0
AreBefore ys x = Each (λ (y : Piece). SortsBefore x.name y.name) ys

rises_append : (xs ys : List Piece) → Rises xs → Rises ys → Each (AreBefore ys) xs → Rises (xs ++ ys)
rises_append [] ys a b h = b
rises_append (x ∷ xs) ys a b h = (each_append (λ (y : Piece). SortsBefore x.name y.name) xs ys a.0 h.0, rises_append xs ys a.1 b h.1)

pub below_rises : (name : Name) (k : ℕ) (trees : Trees) → Rises (pieces_below name k trees)
below_rises name k none = tt
below_rises name k (grow node below beside) =
    let under = all_under (child_name name k) 0 below in
    let after = all_under name (k + 1) beside in (
      each_append (λ (y : Piece). SortsBefore (child_name name k) y.name) (pieces_below (child_name name k) 0 below) (pieces_below name (k + 1) beside)
          (each_weaker (IsUnder (child_name name k) 0) (λ (y : Piece). SortsBefore (child_name name k) y.name) _ (own_first (child_name name k) 0) under)
          (each_weaker (IsUnder name (k + 1)) (λ (y : Piece). SortsBefore (child_name name k) y.name) _ (child_first name k) after),
      rises_append (pieces_below (child_name name k) 0 below) (pieces_below name (k + 1) beside) (below_rises (child_name name k) 0 below)
          (below_rises name (k + 1) beside)
          (each_weaker (IsUnder (child_name name k) 0) (AreBefore (pieces_below name (k + 1) beside)) _
          (λ a first. each_weaker (IsUnder name (k + 1)) (λ (y : Piece). SortsBefore a.name y.name) _ (λ b next. below_first name k a b first next)
          after) under),
    )

pub pieces_rise : (tree : Trees) → Rises (pieces_of tree)
pieces_rise none = tt
pieces_rise (grow node below beside) = (
  each_weaker (IsUnder root_name 0) (λ (y : Piece). SortsBefore root_name y.name) _ (own_first root_name 0) (all_under root_name 0 below),
  below_rises root_name 0 below,
)

-- ---- lists that rise

-- two pieces of one name are one piece
pub one_of_name : (xs : List Piece) (a b : Piece) → Rises xs → Has xs a → Has xs b → a.name ≡ b.name → a ≡ b
one_of_name [] a b up has_a has_b same = absurd has_a
one_of_name (x ∷ xs) a b up has_a has_b same = elim has_a [
  | inl is_a ↦ elim has_b [
    | inl is_b ↦ sym is_a ∙ is_b
    | inr in_b ↦ absurd (not_itself b.name (subst (λ (w : Name). SortsBefore w b.name) (ap (λ (p : Piece). p.name) is_a ∙ same)
        (each_at (λ (y : Piece). SortsBefore x.name y.name) xs b up.0 in_b)))
  ]
  | inr in_a ↦ elim has_b [
    | inl is_b ↦ absurd (not_itself a.name (subst (λ (w : Name). SortsBefore w a.name) (ap (λ (p : Piece). p.name) is_b ∙ sym same)
        (each_at (λ (y : Piece). SortsBefore x.name y.name) xs a up.0 in_a)))
    | inr in_b ↦ one_of_name xs a b up.1 in_a in_b same
  ]
]

-- the first of one is the first of the other
same_first : (x y : Piece) (xs ys : List Piece) → Rises (x ∷ xs) → Rises (y ∷ ys) → Has (y ∷ ys) x → Has (x ∷ xs) y → x ≡ y
same_first x y xs ys a b has_x has_y = elim has_x [
  | inl same ↦ sym same
  | inr in_x ↦ elim has_y [
    | inl same ↦ same
    | inr in_y ↦ absurd (not_itself x.name (before_both x.name y.name x.name (each_at (λ (z : Piece). SortsBefore x.name z.name) xs y a.0 in_y)
        (each_at (λ (z : Piece). SortsBefore y.name z.name) ys x b.0 in_x)))
  ]
]

-- what a rising list has, but for its first
rest_has : (x : Piece) (xs ys : List Piece) → Rises (x ∷ xs) → ((p : Piece) → Has (x ∷ xs) p → Has (x ∷ ys) p) → (p : Piece) → Has xs p → Has ys p
rest_has x xs ys a h p there = elim (h p (inr there)) [
  | inl same ↦ absurd (not_itself x.name (subst (λ (w : Piece). SortsBefore x.name w.name) (sym same)
      (each_at (λ (z : Piece). SortsBefore x.name z.name) xs p a.0 there)))
  | inr found ↦ found
]

pub same_list : (xs ys : List Piece) → Rises xs → Rises ys → ((p : Piece) → Has xs p → Has ys p) → ((p : Piece) → Has ys p → Has xs p) → xs ≡ ys
same_list [] [] a b f g = refl
same_list [] (y ∷ ys) a b f g = absurd (g y (inl refl))
same_list (x ∷ xs) [] a b f g = absurd (f x (inl refl))
same_list (x ∷ xs) (y ∷ ys) a b f g =
    let first : x ≡ y = same_first x y xs ys a b (f x (inl refl)) (g y (inl refl)) in
    let onto : (p : Piece) → Has (x ∷ xs) p → Has (x ∷ ys) p = subst (λ (z : Piece). (p : Piece) → Has (x ∷ xs) p → Has (z ∷ ys) p) (sym first) f in
    let back : (p : Piece) → Has (x ∷ ys) p → Has (x ∷ xs) p = subst (λ (z : Piece). (p : Piece) → Has (z ∷ ys) p → Has (x ∷ xs) p) (sym first) g in
    let up : Rises (x ∷ ys) = subst (λ (z : Piece). Rises (z ∷ ys)) (sym first) b in
    let rest = same_list xs ys a.1 b.1 (rest_has x xs ys a onto) (rest_has x ys xs up back) in
    ap (λ (z : Piece). z ∷ xs) first ∙ ap (λ (zs : List Piece). y ∷ zs) rest
