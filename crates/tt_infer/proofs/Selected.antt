-- Terms of a sum that a test selects.
use Rattle.std.proofs.Common.{◌≡◌, ℕ, ◌+◌, ◌≤◌, ◌&&◌, ◌==◌, nat_le, if◌then◌else◌, Bool, true, false, arith, inl, inr, refl, ◌⊎◌}
use Rattle.std.proofs.lemmas.Bool.{and_parts, leb-true, eqb-true}

-- a wider test selects no less
pub selected_le : (a b : Bool) (w : ℕ) → (a ≡ true → b ≡ true) → (if a then w else 0) ≤ (if b then w else 0)
selected_le false b w h = omega arith
selected_le true b w h = rw (h refl) (omega arith)

-- what one test selects is selected by one of two others
pub selected_split : (a b d : Bool) (w : ℕ) → (a ≡ true → (b ≡ true) ⊎ (d ≡ true)) → (if a then w else 0) ≤ (if b then w else 0) + (if d then w else 0)
selected_split false b d w h = omega arith
selected_split true b d w h = elim (h refl) [ inl is ↦ rw is (omega arith) | inr is ↦ rw is (omega arith) ]

-- what is selected is no more than more that a wider test selects
pub if_wider : (a b : Bool) (x y : ℕ) → (a ≡ true → b ≡ true) → x ≤ y → (if a then x else 0) ≤ (if b then y else 0)
if_wider false b x y wider le = omega arith
if_wider true b x y wider le = rw (wider refl) le

-- or than its parts, or than nothing
pub if_split : (a : Bool) (x y z : ℕ) → x ≤ y + z → (if a then x else 0) ≤ (if a then y else 0) + (if a then z else 0)
if_split true x y z le = le
if_split false x y z le = omega arith

pub if_none : (a : Bool) (x : ℕ) → x ≡ 0 → (if a then x else 0) ≡ 0
if_none true x none = none
if_none false x none = refl

-- what a test of a node and of two bounds tells
pub span_tells : (m n a x y b : ℕ) → ((m == n) && (nat_le a x && nat_le y b)) ≡ true → (m ≡ n) × (a ≤ x) × (y ≤ b)
span_tells m n a x y b h =
    let both = and_parts (m == n) (nat_le a x && nat_le y b) h in
    let span = and_parts (nat_le a x) (nat_le y b) both.1 in
    (eqb-true m n both.0, leb-true a x span.0, leb-true y b span.1)
