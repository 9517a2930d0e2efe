-- By how many ticks a process runs longer with a number, and with which number by so many at most.
use Rattle.std.proofs.Common.{ℕ, ◌*◌, ◌/◌, ◌<◌, ◌≤◌, if◌then◌else◌, Bool, true, false, arith}
use Rattle.std.specs.Int.{div_ceil}
use Rattle.std.proofs.Math.Nat.{div-mul-le_self, le-div_iff_mul-le, mul-le-mul_left}
use Rattle.std.proofs.lemmas.Nat.{mul-le}
use Rattle.std.proofs.lemmas.Grind.{div_ceil_times}
use Rattle.ttp_model.specs.Limits.{most_ticks}
use Rattle.instance_variants.specs.declared.scale.Scale.{Scale}
use Rattle.instance_variants.specs.declared.scale.Scale.TheVariants.{Ticks, Thousandths}
use Rattle.instance_variants.specs.Longer.{most_number, number_of, ticks_of}

-- what is rounded up is so many thousands at most exactly where all of it is
up-within : (n ticks : ℕ) → n ≤ 1000 * ticks → div_ceil n 1000 ≤ ticks
up-within n ticks le = omega (arith, le, (div_ceil_times n 1000 (omega arith)).1)

within-up : (n ticks : ℕ) → div_ceil n 1000 ≤ ticks → n ≤ 1000 * ticks
within-up n ticks le = omega (arith, le, (div_ceil_times n 1000 (omega arith)).0)

-- a greater number is no fewer ticks
pub ticks-mono : (scale : Scale) (x y wcet : ℕ) → x ≤ y → ticks_of scale x wcet ≤ ticks_of scale y wcet
ticks-mono Ticks x y wcet le = le
ticks-mono Thousandths x y wcet le =
    let products : x * wcet ≤ y * wcet = mul-le x wcet y wcet le (omega arith) in
    let more = within-up (y * wcet) (div_ceil (y * wcet) 1000) (omega arith) in
    up-within (x * wcet) (div_ceil (y * wcet) 1000) (omega (arith, products, more))

-- it is so many at most exactly where the number is theirs at most
pub ticks-within : (scale : Scale) (x ticks wcet : ℕ) → 1 ≤ wcet → x ≤ number_of scale ticks wcet → ticks_of scale x wcet ≤ ticks
ticks-within Ticks x ticks wcet some le = le
ticks-within Thousandths x ticks wcet some le =
    up-within (x * wcet) ticks ((le-div_iff_mul-le {k = wcet} {x = x} {y = 1000 * ticks} (omega (arith, some))).0 le)

pub number-within : (scale : Scale) (x ticks wcet : ℕ) → 1 ≤ wcet → ticks_of scale x wcet ≤ ticks → x ≤ number_of scale ticks wcet
number-within Ticks x ticks wcet some le = le
number-within Thousandths x ticks wcet some le =
    (le-div_iff_mul-le {k = wcet} {x = x} {y = 1000 * ticks} (omega (arith, some))).1 (within-up (x * wcet) ticks le)

quotient-le : (n k : ℕ) → 1 ≤ k → n / k ≤ n
quotient-le n k some =
    let whole : (n / k) * 1 ≤ (n / k) * k = mul-le-mul_left (n / k) some in
    omega (arith, whole, div-mul-le_self n k)

-- and that is never past the most that can be said
pub number-most : (scale : Scale) (ticks wcet : ℕ) → 1 ≤ wcet → ticks ≤ most_ticks → number_of scale ticks wcet ≤ most_number
number-most Ticks ticks wcet some few = omega (arith, few)
number-most Thousandths ticks wcet some few = omega (arith, few, quotient-le (1000 * ticks) wcet some)

-- The same where a process is one of some, and where it isn't.
pub longer-mono : (b : Bool) (scale : Scale) (x y wcet : ℕ) → x ≤ y
    → (if b then ticks_of scale x wcet else 0) ≤ (if b then ticks_of scale y wcet else 0)
longer-mono true scale x y wcet le = ticks-mono scale x y wcet le
longer-mono false scale x y wcet le = omega arith

pub longer-within : (b : Bool) (scale : Scale) (x ticks top wcet : ℕ) → 1 ≤ wcet → x ≤ (if b then number_of scale ticks wcet else top)
    → (if b then ticks_of scale x wcet else 0) ≤ ticks
longer-within true scale x ticks top wcet some le = ticks-within scale x ticks wcet some le
longer-within false scale x ticks top wcet some le = omega arith

pub within-longer : (b : Bool) (scale : Scale) (x ticks top wcet : ℕ) → 1 ≤ wcet → x ≤ top → (if b then ticks_of scale x wcet else 0) ≤ ticks
    → x ≤ (if b then number_of scale ticks wcet else top)
within-longer true scale x ticks top wcet some low le = number-within scale x ticks wcet some le
within-longer false scale x ticks top wcet some low le = low
