-- Lists that are made piece by piece, and sums over their places.
use Rattle.std.proofs.Common.{◌≡◌, ◌∙◌, ℕ, zero, suc, ◌+◌, ◌-◌, ◌<◌, ◌≤◌, List, [], ◌∷◌, ◌++◌, length, get_or, map, arith, inl, inr, refl, sym, ap, add-one}
use Rattle.std.specs.List.{flat_map, range_with_len}
use Rattle.std.proofs.lemmas.Bool.{cases_eq, cases_lt, cases_order}
use Rattle.std.proofs.lemmas.List.{flat_map_more, get_or_append_left, get_or-append-add, length-append}
use Rattle.std.proofs.lemmas.List.FromFn.{fill_by_all}
use Rattle.ttp_model.specs.Totals.{total}
use Rattle.ttp_model.proofs.Ranges.{range_more}
use Rattle.ttp_model.proofs.Totals.{total_longer, total_more, total_next}

-- the pieces of one number more
pub pieces_more : {X : Type 0} (f : ℕ → List X) (count : ℕ) → flat_map f (range_with_len 0 (count + 1)) ≡ flat_map f (range_with_len 0 count) ++ f count
pieces_more f count = rw (range_more count) (sym (flat_map_more f [] (range_with_len 0 count) count))

pieces_next : {X : Type 0} (f : ℕ → List X) (count : ℕ) → flat_map f (range_with_len 0 (suc count)) ≡ flat_map f (range_with_len 0 count) ++ f count
pieces_next f count = rw add-one at (pieces_more f count)

pub pieces_length : {X : Type 0} (f : ℕ → List X) (count : ℕ) → length (flat_map f (range_with_len 0 count)) ≡ total (λ m. length (f m)) count
pieces_length f zero = refl
pieces_length f (suc count) =
    omega (arith, ap length (pieces_next f count), length-append (flat_map f (range_with_len 0 count)) (f count), pieces_length f count, total_more (λ m. length (f m)) count)

last_piece : {X : Type 0} (f : ℕ → List X) (count k : ℕ) (d : X) → get_or (flat_map f (range_with_len 0 count) ++ f count) (total (λ m. length (f m)) count + k) d ≡ get_or (f count) k d
last_piece f count k d = rw (← pieces_length f count) (get_or-append-add (flat_map f (range_with_len 0 count)) (f count) k d)

-- what stands in a piece, behind those before it
pub piece_at : {X : Type 0} (f : ℕ → List X) (count m k : ℕ) (d : X) → m < count → k < length (f m) → get_or (flat_map f (range_with_len 0 count)) (total (λ x. length (f x)) m + k) d ≡ get_or (f m) k d
piece_at f zero m k d inside there = absurd (omega (arith, inside))
piece_at f (suc count) m k d inside there =
    let place = total (λ x. length (f x)) m + k in
    let before = flat_map f (range_with_len 0 count) in
    ap (λ xs. get_or xs place d) (pieces_next f count) ∙ (elim (cases_eq m count) [
      | inl same ↦ rw same (last_piece f count k d)
      | inr other ↦
          let within : m < count = omega (arith, inside, other) in
          let short : place < length before = omega (arith, pieces_length f count, total_longer (λ x. length (f x)) (suc m) count within, total_more (λ x. length (f x)) m, there) in
          get_or_append_left before (f count) d place short ∙ piece_at f count m k d within there
    ])

-- a place below a sum is one within a term
pub split : (g : ℕ → ℕ) (count x : ℕ) → x < total g count → (m : ℕ) × (k : ℕ) × (m < count) × (k < g m) × (x ≡ total g m + k)
split g zero x below = absurd (omega (arith, below))
split g (suc count) x below = elim (cases_lt x (total g count)) [
  | inl inside ↦ (let rest = split g count x inside in (rest.0, rest.1, omega (arith, rest.2), rest.3, rest.4))
  | inr above ↦ (count, x - total g count, omega arith, omega (arith, above, below, total_more g count), omega (arith, above))
]

-- and of one alone
pub same_split : (g : ℕ → ℕ) (m n j k : ℕ) → j < g m → k < g n → total g m + j ≡ total g n + k → (m ≡ n) × (j ≡ k)
same_split g m n j k first second same = elim (cases_order m n) [
  | inl is ↦ (is, omega (arith, same, ap (total g) is))
  | inr other ↦ elim other [
    | inl below ↦ absurd (omega (arith, same, first, total_more g m, total_longer g (suc m) n below))
    | inr above ↦ absurd (omega (arith, same, second, total_more g n, total_longer g (suc n) m above))
  ]
]

pub within_total : (g : ℕ → ℕ) (count m k : ℕ) → m < count → k < g m → total g m + k < total g count
within_total g count m k inside there = omega (arith, there, total_more g m, total_longer g (suc m) count inside)

-- pieces that are made of a list, by its places
flat_map-map : {X Y : Type 0} (f : X → List Y) (g : ℕ → X) (ks : List ℕ) → flat_map f (map g ks) ≡ flat_map (λ k. f (g k)) ks
flat_map-map f g [] = refl
flat_map-map f g (k ∷ ks) = ap (λ ys. f (g k) ++ ys) (flat_map-map f g ks)

pub pieces_of_list : {X Y : Type 0} (f : X → List Y) (xs : List X) (d : X) → flat_map f xs ≡ flat_map (λ k. f (get_or xs k d)) (range_with_len 0 (length xs))
pieces_of_list f xs d =
    ap (flat_map f) (fill_by_all (λ k. get_or xs k d) xs (length xs) d refl (λ k inside. refl)) ∙ flat_map-map f (λ k. get_or xs k d) (range_with_len 0 (length xs))

-- a sum of two parts
pub total_both : (f : ℕ → ℕ) (a b : ℕ) → total f (a + b) ≡ total f a + total (λ k. f (a + k)) b
total_both f a zero =
    let is : a + 0 ≡ a = omega arith in
    omega (arith, ap (total f) is)
total_both f a (suc b) =
    let is : a + suc b ≡ suc (a + b) = omega arith in
    omega (arith, ap (total f) is, total_more f (a + b), total_both f a b, total_more (λ k. f (a + k)) b)

-- a sum over all places of pieces
pub total_pieces : (f g : ℕ → ℕ) (count : ℕ) → total f (total g count) ≡ total (λ m. total (λ k. f (total g m + k)) (g m)) count
total_pieces f g zero = refl
total_pieces f g (suc count) =
    omega (arith, ap (total f) (total_more g count), total_both f (total g count) (g count), total_pieces f g count, total_more (λ m. total (λ k. f (total g m + k)) (g m)) count)
