-- In a whole tree no name stands twice: by the length of names, since a name has one parent.
use Rattle.std.proofs.Common.{◌≡◌, ◌≢◌, ℕ, zero, suc, ◌+◌, ◌<◌, ◌≤◌, List, [], ◌∷◌, ◌++◌, length, get_or, map, refl, sym, ap, subst, ◌∙◌, inl, inr, arith}
use Rattle.std.specs.List.{range_with_len}
use Rattle.std.specs.List.Sorted.{IsPermutation}
use Rattle.std.proofs.lemmas.List.Sorted.{sum_by-IsPermutation}
use Rattle.std.proofs.lemmas.List.{length-append}
use Rattle.std.specs.List.{sum_by}
use Rattle.std.proofs.lemmas.List.Sums.{sum_by-cons}
use Rattle.std.proofs.lemmas.Bool.{cases_eq}
use Rattle.certificate.specs.Trees.{children}
use Rattle.search_trees.specs.declared.piece.Piece.{Piece}
use Rattle.search_trees.specs.Name.{Name, root_name, child_name, child_names}
use Rattle.search_trees.specs.Pieces.{names_below, names_of, all_below}
use Rattle.search_trees.specs.Account.{IsWholeTree}
use Rattle.search_trees.specs.Once.{NoneTwice}
use Rattle.search_trees.proofs.Weights.{weigh, weigh-append, weigh-map, weigh-flat_map, weigh-two, weigh-le, weigh-none, same_or_other, only, only-same, only-other}

weigh-sum : {A : Type 0} (g : A → ℕ) (xs : List A) → weigh g xs ≡ sum_by g xs
weigh-sum g [] = refl
weigh-sum g (x ∷ xs) = ap (λ n. g x + n) (weigh-sum g xs) ∙ sym (sum_by-cons g x xs)

pub weigh-permutation : {A : Type 0} (g : A → ℕ) (xs ys : List A) → IsPermutation xs ys → weigh g xs ≡ weigh g ys
weigh-permutation g xs ys h = weigh-sum g xs ∙ (sym (sum_by-IsPermutation g xs ys h) ∙ sym (weigh-sum g ys))

-- no name and a longer one are the same
pub no_child_is_root : (name : Name) (k : ℕ) → child_name name k ≢ root_name
no_child_is_root name k e = absurd (omega (arith, ap length e, length-append name (k ∷ [])))

-- a name, and the last step to it
pub parent_of : (name : Name) → name ≢ root_name → (parent : Name) × ((k : ℕ) × (name ≡ child_name parent k))
parent_of [] h = absurd (h refl)
parent_of (x ∷ []) h = ([], (x, refl))
parent_of (x ∷ y ∷ ys) h =
    let r = parent_of (y ∷ ys) (λ e. cc) in
    (x ∷ r.0, (r.1.0, ap (λ zs. x ∷ zs) r.1.1))

-- a child has one parent and one number
pub child_parts : (a b : Name) (j k : ℕ) → child_name a j ≡ child_name b k → (a ≡ b) × (j ≡ k)
child_parts [] [] j k e = (refl, cc)
child_parts [] (y ∷ ys) j k e = absurd (omega (arith, ap length e, length-append ys (k ∷ [])))
child_parts (x ∷ xs) [] j k e = absurd (omega (arith, ap length e, length-append xs (j ∷ [])))
child_parts (x ∷ xs) (y ∷ ys) j k e =
    let tails : child_name xs j ≡ child_name ys k = cc in
    let heads : x ≡ y = cc in
    let r = child_parts xs ys j k tails in
    let rest : xs ≡ ys = r.0 in
    (cc, r.1)

-- among the children of a name a child of another has no place
others_child : (a b : Name) (k first count : ℕ) → a ≢ b → weigh (only (child_name a k)) (map (child_name b) (range_with_len first count)) ≡ 0
others_child a b k first zero h = refl
others_child a b k first (suc count) h =
    omega (arith, only-other (child_name a k) (child_name b first) (λ e. h (child_parts a b k first e).0), others_child a b k (first + 1) count h)

-- and a number below the first has none
early_child : (a : Name) (k first count : ℕ) → k < first → weigh (only (child_name a k)) (map (child_name a) (range_with_len first count)) ≡ 0
early_child a k first zero h = refl
early_child a k first (suc count) h =
    let later : k < first + 1 = omega arith in
    omega (
      arith,
      only-other (child_name a k) (child_name a first) (λ e. absurd (omega (arith, (child_parts a a k first e).1))),
      early_child a k (first + 1) count later,
    )

-- a child stands once at most
one_child : (a : Name) (k first count : ℕ) → weigh (only (child_name a k)) (map (child_name a) (range_with_len first count)) ≤ 1
one_child a k first zero = omega arith
one_child a k first (suc count) =
    elim (cases_eq k first) [
      | inl e ↦
          let later : k < first + 1 = omega arith in
          let same : only (child_name a k) (child_name a first) ≡ 1 = rw (← e) (only-same (child_name a k)) in
          omega (arith, same, early_child a k (first + 1) count later)
      | inr e ↦ omega (arith, only-other (child_name a k) (child_name a first) (λ f. e (child_parts a a k first f).1), one_child a k (first + 1) count)
    ]

-- below a piece the child of a name stands only where the piece has that name
below_piece : (a : Name) (k : ℕ) (piece : Piece) → weigh (only (child_name a k)) (names_below piece) ≤ only a piece.name
below_piece a k piece =
    elim (same_or_other a piece.name) [
      | inl e ↦
          let one : only a piece.name ≡ 1 = rw (← e) (only-same a) in
          let P : Name → Type 0 = λ b. weigh (only (child_name a k)) (child_names b (children piece.node)) ≤ 1 in
          omega (arith, one, let h : P piece.name = subst P e (one_child a k 0 (children piece.node)) in h)
      | inr e ↦ omega (arith, others_child a piece.name k 0 (children piece.node) e)
    ]

below_all : (a : Name) (k : ℕ) (pieces : List Piece) → weigh (only (child_name a k)) (all_below pieces) ≤ weigh (only a) (names_of pieces)
below_all a k pieces =
    omega (
      arith,
      weigh-flat_map (only (child_name a k)) names_below pieces,
      weigh-map (only a) (λ (piece : Piece). piece.name) pieces,
      weigh-le (λ (piece : Piece). weigh (only (child_name a k)) (names_below piece)) (λ (piece : Piece). only a piece.name) pieces (below_piece a k),
    )

no_root : (a : Name) (first count : ℕ) → weigh (only root_name) (map (child_name a) (range_with_len first count)) ≡ 0
no_root a first zero = refl
no_root a first (suc count) =
    omega (arith, only-other root_name (child_name a first) (λ e. no_child_is_root a first (sym e)), no_root a (first + 1) count)

root_below : (pieces : List Piece) → weigh (only root_name) (all_below pieces) ≡ 0
root_below pieces =
    weigh-flat_map (only root_name) names_below pieces
    ∙ weigh-none (λ (piece : Piece). weigh (only root_name) (names_below piece)) pieces (λ piece. no_root piece.name 0 (children piece.node))

at_root : (pieces : List Piece) (name : Name) → name ≡ root_name → weigh (only name) (root_name ∷ all_below pieces) ≤ 1
at_root pieces name e =
    let P : Name → Type 0 = λ x. weigh (only x) (root_name ∷ all_below pieces) ≤ 1 in
    let here : P root_name = omega (arith, only-same root_name, root_below pieces) in
    subst P (sym e) here

at_child : (pieces : List Piece) (parent name : Name) (k : ℕ) → name ≡ child_name parent k → weigh (only parent) (names_of pieces) ≤ 1
    → weigh (only name) (root_name ∷ all_below pieces) ≤ 1
at_child pieces parent name k e h =
    let P : Name → Type 0 = λ x. weigh (only x) (root_name ∷ all_below pieces) ≤ 1 in
    let here : P (child_name parent k) = omega (arith, only-other (child_name parent k) root_name (no_child_is_root parent k), below_all parent k pieces, h) in
    subst P (sym e) here

-- each name stands once at most
pub weighs_one : (pieces : List Piece) (unworked : List Name) → IsWholeTree pieces unworked → (n : ℕ) (name : Name) → length name ≤ n
    → weigh (only name) (names_of pieces ++ unworked) ≤ 1
weighs_one pieces unworked tree zero name h =
    let same = weigh-permutation (only name) (names_of pieces ++ unworked) (root_name ∷ all_below pieces) tree in
    elim (same_or_other name root_name) [
      | inl e ↦ omega (arith, same, at_root pieces name e)
      | inr e ↦
          let r = parent_of name e in
          absurd (omega (arith, h, ap length r.1.1, length-append r.0 (r.1.0 ∷ [])))
    ]
weighs_one pieces unworked tree (suc n) name h =
    let same = weigh-permutation (only name) (names_of pieces ++ unworked) (root_name ∷ all_below pieces) tree in
    elim (same_or_other name root_name) [
      | inl e ↦ omega (arith, same, at_root pieces name e)
      | inr e ↦
          let r = parent_of name e in
          let shorter : length r.0 ≤ n = omega (arith, h, ap length r.1.1, length-append r.0 (r.1.0 ∷ [])) in
          let before = weighs_one pieces unworked tree n r.0 shorter in
          let parents : weigh (only r.0) (names_of pieces) ≤ 1 = omega (arith, before, weigh-append (only r.0) (names_of pieces) unworked) in
          omega (arith, same, at_child pieces r.0 name r.1.0 r.1.1 parents)
    ]

pub none_twice : (pieces : List Piece) (unworked : List Name) → IsWholeTree pieces unworked → NoneTwice (names_of pieces ++ unworked)
none_twice pieces unworked tree j k lt h e =
    let names = names_of pieces ++ unworked in
    let name = get_or names j root_name in
    let two = weigh-two (only name) names j k root_name lt h in
    let second : only name (get_or names k root_name) ≡ 1 = ap (only name) (sym e) ∙ only-same name in
    absurd (omega (arith, two, second, only-same name, weighs_one pieces unworked tree (length name) name (omega arith)))
