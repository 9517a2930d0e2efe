-- Elements of a list, one after another, and what is true of each.
use Rattle.std.proofs.Common.{◌≡◌, ℕ, zero, suc, ◌+◌, ◌<◌, ◌≤◌, List, [], ◌∷◌, ◌++◌, ◌⊎◌, inl, inr, length, map, get_or, Contains, refl, sym, ap, subst, arith}
use Rattle.std.specs.List.{flat_map, range_with_len, AllByRecursion as Each}

-- x is an element of xs
abbrev pub Has : {X : Type 0} → List X → X → Type 0
Has [] x = ⊥
Has (y ∷ ys) x = (y ≡ x) ⊎ Has ys x

contains_next : {X : Type 0} (ys : List X) (y x : X) (k : ℕ) → k < length ys → get_or ys k x ≡ x → Contains (y ∷ ys) x
contains_next ys y x k lt is = (suc k, omega arith, is)

pub contains_from_has : {X : Type 0} (xs : List X) (x : X) → Has xs x → Contains xs x
contains_from_has [] x h = absurd h
contains_from_has (y ∷ ys) x h = elim h [
  | inl same ↦ (0, omega arith, same)
  | inr later ↦ let there = contains_from_has ys x later in contains_next ys y x there.0 there.1 there.2
]

has_at : {X : Type 0} (xs : List X) (x : X) (k : ℕ) → k < length xs → get_or xs k x ≡ x → Has xs x
has_at [] x k lt is = absurd (omega arith)
has_at (y ∷ ys) x zero lt is = inl is
has_at (y ∷ ys) x (suc k) lt is = inr (has_at ys x k (omega arith) is)

pub has_from_contains : {X : Type 0} (xs : List X) (x : X) → Contains xs x → Has xs x
has_from_contains xs x there = has_at xs x there.0 there.1 there.2

pub has_left : {X : Type 0} (xs ys : List X) (x : X) → Has xs x → Has (xs ++ ys) x
has_left [] ys x h = absurd h
has_left (y ∷ xs) ys x h = elim h [
  | inl same ↦ inl same
  | inr later ↦ inr (has_left xs ys x later)
]

pub has_right : {X : Type 0} (xs ys : List X) (x : X) → Has ys x → Has (xs ++ ys) x
has_right [] ys x h = h
has_right (y ∷ xs) ys x h = inr (has_right xs ys x h)

pub has_either : {X : Type 0} (xs ys : List X) (x : X) → Has (xs ++ ys) x → Has xs x ⊎ Has ys x
has_either [] ys x h = inr h
has_either (y ∷ xs) ys x h = elim h [
  | inl same ↦ inl (inl same)
  | inr later ↦ elim (has_either xs ys x later) [
    | inl left ↦ inl (inr left)
    | inr right ↦ inr right
  ]
]

pub has_map : {X Y : Type 0} (f : X → Y) (xs : List X) (x : X) → Has xs x → Has (map f xs) (f x)
has_map f [] x h = absurd h
has_map f (y ∷ xs) x h = elim h [
  | inl same ↦ inl (ap f same)
  | inr later ↦ inr (has_map f xs x later)
]

-- an element of a mapped list comes from one
pub record IsFrom {X Y : Type 0} (f : X → Y) (xs : List X) (y : Y) : Type 0 where
  pub from : X
  pub there : Has xs from
  pub is : f from ≡ y

pub has_from_map : {X Y : Type 0} (f : X → Y) (xs : List X) (y : Y) → Has (map f xs) y → IsFrom f xs y
has_from_map f [] y h = absurd h
has_from_map f (x ∷ xs) y h = elim h [
  | inl same ↦ record { from = x; there = inl refl; is = same }
  | inr later ↦ let more = has_from_map f xs y later in record { from = more.from; there = inr more.there; is = more.is }
]

pub has_flat_map : {X Y : Type 0} (f : X → List Y) (xs : List X) (x : X) (y : Y) → Has xs x → Has (f x) y → Has (flat_map f xs) y
has_flat_map f [] x y h g = absurd h
has_flat_map f (z ∷ xs) x y h g = elim h [
  | inl same ↦ has_left (f z) (flat_map f xs) y (subst (λ w. Has (f w) y) (sym same) g)
  | inr later ↦ has_right (f z) (flat_map f xs) y (has_flat_map f xs x y later g)
]

pub record IsFromList {X Y : Type 0} (f : X → List Y) (xs : List X) (y : Y) : Type 0 where
  pub from : X
  pub there : Has xs from
  pub is : Has (f from) y

pub has_from_flat_map : {X Y : Type 0} (f : X → List Y) (xs : List X) (y : Y) → Has (flat_map f xs) y → IsFromList f xs y
has_from_flat_map f [] y h = absurd h
has_from_flat_map f (x ∷ xs) y h = elim (has_either (f x) (flat_map f xs) y h) [
  | inl here ↦ record { from = x; there = inl refl; is = here }
  | inr later ↦ let more = has_from_flat_map f xs y later in record { from = more.from; there = inr more.there; is = more.is }
]

pub has_range : (start count k : ℕ) → start ≤ k → k < start + count → Has (range_with_len start count) k
has_range start zero k from below = absurd (omega arith)
has_range start (suc count) k from below = elim (same_or_later start k from) [
  | inl same ↦ inl same
  | inr later ↦ inr (has_range (start + 1) count k later (omega arith))
]
  where
    same_or_later : (a b : ℕ) → a ≤ b → (a ≡ b) ⊎ (a + 1 ≤ b)
    same_or_later a b le = grind arith

pub in_range : (start count k : ℕ) → Has (range_with_len start count) k → (start ≤ k) × (k < start + count)
in_range start zero k h = absurd h
in_range start (suc count) k h = elim h [
  | inl same ↦ (omega arith, omega arith)
  | inr later ↦ let more = in_range (start + 1) count k later in (omega arith, omega arith)
]

pub each_has : {X : Type 0} (P : X → Type 0) (xs : List X) → ((x : X) → Has xs x → P x) → Each P xs
each_has P [] h = tt
each_has P (x ∷ xs) h = (h x (inl refl), each_has P xs (λ y there. h y (inr there)))

pub each_at : {X : Type 0} (P : X → Type 0) (xs : List X) (x : X) → Each P xs → Has xs x → P x
each_at P [] x each h = absurd h
each_at P (y ∷ xs) x each h = elim h [
  | inl same ↦ subst P same each.0
  | inr later ↦ each_at P xs x each.1 later
]

pub each_append : {X : Type 0} (P : X → Type 0) (xs ys : List X) → Each P xs → Each P ys → Each P (xs ++ ys)
each_append P [] ys a b = b
each_append P (x ∷ xs) ys a b = (a.0, each_append P xs ys a.1 b)

pub each_weaker : {X : Type 0} (P Q : X → Type 0) (xs : List X) → ((x : X) → P x → Q x) → Each P xs → Each Q xs
each_weaker P Q [] h each = tt
each_weaker P Q (x ∷ xs) h each = (h x each.0, each_weaker P Q xs h each.1)

-- what holds of the element at a place, whatever stands for one that isn't there
pub holds_at : {X : Type 0} (P : X → Type 0) (xs : List X) (k : ℕ) (x d : X) → k < length xs → x ≡ get_or xs k x → P x → P (get_or xs k d)
holds_at P [] k x d lt is holds = absurd (omega arith)
holds_at P (y ∷ xs) zero x d lt is holds = subst P is holds
holds_at P (y ∷ xs) (suc k) x d lt is holds = holds_at P xs k x d (omega arith) is holds
