-- Which intervals matter? Those from where a demand begins to where one ends, or to their own beginning.
use Rattle.std.proofs.Common.{◌≡◌, ℕ, zero, suc, ◌+◌, ◌-◌, ◌*◌, ◌<◌, ◌≤◌, ◌&&◌, nat_le, if◌then◌else◌, max, List, [], ◌∷◌, take, length, sum_by, get_or, arith, inl, inr, refl, ◌⊎◌, add-one}
use Rattle.std.proofs.lemmas.Bool.{cases_Bool, cases_lt, and_parts, and_from, leb-true, le-leb}
use Rattle.std.proofs.lemmas.List.Sums.{sum_by-cons, sum_by-le-sum_by, sum_by_more, sum_by-take-le}
use Rattle.std.proofs.lemmas.List.Sorted.{sum_by-IsPermutation}
use Rattle.std.specs.List.Sorted.{IsNonDecreasingBy, IsPermutation}
use Rattle.std.proofs.Math.Nat.{mul-le-mul_right}
use Rattle.load_bounds.specs.declared.demands.Demand.{Demand}
use Rattle.load_bounds.specs.Within.{until_of, part_within, demand_within, IsExcess}

-- nothing, which is read past the last demand
abbrev pub no_demand : Demand
no_demand = record { from = 0; until = 0; size = 0 }

part_in : (a b : ℕ) (d : Demand) → a ≤ d.from → d.until ≤ b → part_within a b d ≡ d.size
part_in a b d from until = rw (and_from _ _ (le-leb _ _ from) (le-leb _ _ until)) refl

part_cases : (a b : ℕ) (d : Demand) → ((a ≤ d.from) × (d.until ≤ b) × (part_within a b d ≡ d.size)) ⊎ (part_within a b d ≡ 0)
part_cases a b d = elim (cases_Bool (nat_le a d.from && nat_le d.until b)) [
  | inl is ↦
      let both = and_parts (nat_le a d.from) (nat_le d.until b) is in
      inl (leb-true _ _ both.0, leb-true _ _ both.1, rw is refl)
  | inr not ↦ inr (rw not refl)
]

-- a wider interval has no less
part_wider : (a b c e : ℕ) (d : Demand) → c ≤ a → b ≤ e → part_within a b d ≤ part_within c e d
part_wider a b c e d left right = elim (part_cases a b d) [
  | inl in_it ↦ omega (arith, in_it.2, part_in c e d (omega (arith, in_it.0)) (omega (arith, in_it.1)))
  | inr none ↦ omega (arith, none)
]

wider : (ds : List Demand) (a b c e : ℕ) → c ≤ a → b ≤ e → demand_within a b ds ≤ demand_within c e ds
wider ds a b c e left right = sum_by-le-sum_by (part_within a b) (part_within c e) ds (λ d. part_wider a b c e d left right)

-- all of a demand that begins at a or later
pub part_from : ℕ → Demand → ℕ
part_from a d = if nat_le a d.from then d.size else 0

pub part_from_in : (a : ℕ) (d : Demand) → a ≤ d.from → part_from a d ≡ d.size
unfolding part_from
part_from_in a d from = rw (le-leb _ _ from) refl

pub part_from_out : (a : ℕ) (d : Demand) → d.from < a → part_from a d ≡ 0
unfolding part_from
part_from_out a d early = elim (cases_Bool (nat_le a d.from)) [
  | inl is ↦ (let no = leb-true _ _ is in absurd (omega (arith, no)))
  | inr not ↦ rw not refl
]

part_within_from : (a b : ℕ) (d : Demand) → part_within a b d ≤ part_from a d
part_within_from a b d = elim (part_cases a b d) [
  | inl in_it ↦ omega (arith, in_it.2, part_from_in a d in_it.0)
  | inr none ↦ omega (arith, none)
]

part_from_within : (a b : ℕ) (d : Demand) → d.until ≤ b → part_from a d ≤ part_within a b d
part_from_within a b d until = elim (cases_lt d.from a) [
  | inl early ↦ omega (arith, part_from_out a d early)
  | inr from ↦ omega (arith, part_from_in a d from, part_in a b d from until)
]

-- the first demands, one by one
first_le : (f g : Demand → ℕ) (ds : List Demand) (here : Demand) (i : ℕ) → i ≤ length ds → ((k : ℕ) → k < i → f (get_or ds k here) ≤ g (get_or ds k here)) → sum_by f (take i ds) ≤ sum_by g (take i ds)
first_le f g ds here zero few each = omega arith
first_le f g ds here (suc i) few each =
    let rest = first_le f g ds here i (omega arith) (λ k below. each k (omega arith)) in
    let last = each i (omega arith) in
    let less = rw add-one at (sum_by_more f ds i here (omega arith)) in
    let more = rw add-one at (sum_by_more g ds i here (omega arith)) in
    omega (arith, rest, last, less, more)

-- the demands up to one, which are sorted by their ends: those that begin at a or later lie from a to
-- its end
pub found : (rate a until i : ℕ) (ds : List Demand) (here : Demand) → IsNonDecreasingBy until_of ds → i < length ds → a ≤ until → (get_or ds i here).until ≤ until → (until - a) * rate < sum_by (part_from a) (take (i + 1) ds) → IsExcess rate ds a until
found rate a until i ds here sorted below interval last too_much =
    let each = first_le (part_from a) (part_within a until) ds here (i + 1) (omega arith) (λ k lt.
    let order = sorted k i here (omega arith) below in
    part_from_within a until (get_or ds k here) (omega (arith, order))) in
    let all = sum_by-take-le (part_within a until) ds (i + 1) in
    record { interval = interval; excess = omega (arith, each, all) }

-- one more demand: where it begins early, or what begins at a or later up to it is no more than its own
-- interval has room for, no interval from a gets too much by it
pub none_more : (rate a i : ℕ) (ds : List Demand) (here : Demand) → i < length ds → ((b : ℕ) → ¬ IsExcess rate (take i ds) a b) → ((get_or ds i here).from < a) ⊎ (sum_by (part_from a) (take (i + 1) ds) ≤ (max a (get_or ds i here).until - a) * rate) → (b : ℕ) → ¬ IsExcess rate (take (i + 1) ds) a b
none_more rate a i ds here below none kept b e =
    let d = get_or ds i here in
    let more = sum_by_more (part_within a b) ds i here below in
    elim (part_cases a b (get_or ds i here)) [
      | inl in_it ↦ elim kept [
        | inl early ↦ (let from = in_it.0 in absurd (omega (arith, from, early)))
        | inr room ↦
            let from_a = sum_by-le-sum_by (part_within a b) (part_from a) (take (i + 1) ds) (λ d. part_within_from a b d) in
            let end : (get_or ds i here).until ≤ b = in_it.1 in
            let interval : a ≤ b = e.interval in
            let narrower : max a (get_or ds i here).until - a ≤ b - a = omega arith in
            let wide = mul-le-mul_right rate narrower in
            let excess = e.excess in
            absurd (omega (arith, excess, from_a, room, wide))
      ]
      | inr nothing ↦
          let excess = e.excess in
          absurd (none b (record { interval = e.interval; excess = omega (arith, excess, more, nothing) }))
    ]

-- an interval in which nothing lies, or the first beginning of what lies in it
first_in : (ds : List Demand) (a b : ℕ) (here : Demand) → (demand_within a b ds ≡ 0) ⊎ ((k : ℕ) × ((k < length ds) × (a ≤ (get_or ds k here).from) × (demand_within a b ds ≤ demand_within (get_or ds k here).from b ds)))
first_in [] a b here = inl refl
first_in (d ∷ ds) a b here =
    let all = sum_by-cons (part_within a b) d ds in
    elim (part_cases a b d) [
      | inl in_it ↦ elim (first_in ds a b here) [
        | inl none ↦
            let own = sum_by-cons (part_within d.from b) d ds in
            let it = part_in d.from b d (omega arith) in_it.1 in
            let size = in_it.2 in
            inr (0, (omega arith, in_it.0, omega (arith, all, none, own, it, size)))
        | inr later ↦
            let k = later.0 in
            let is = later.1 in
            elim (cases_lt d.from (get_or ds k here).from) [
              | inr le ↦
                  let own = sum_by-cons (part_within (get_or ds k here).from b) d ds in
                  let it = part_in (get_or ds k here).from b d le in_it.1 in
                  inr (suc k, (omega (arith, is.0), is.1, omega (arith, all, in_it.2, own, it, is.2)))
              | inl lt ↦
                  let own = sum_by-cons (part_within d.from b) d ds in
                  let it = part_in d.from b d (omega arith) in_it.1 in
                  let wide = wider ds (get_or ds k here).from b d.from b (omega arith) (omega arith) in
                  inr (0, (omega arith, in_it.0, omega (arith, all, in_it.2, own, it, is.2, wide)))
            ]
      ]
      | inr nothing ↦ elim (first_in ds a b here) [
        | inl none ↦ inl (omega (arith, all, nothing, none))
        | inr later ↦
            let k = later.0 in
            let is = later.1 in
            let own = sum_by-cons (part_within (get_or ds k here).from b) d ds in
            inr (suc k, (omega (arith, is.0), is.1, omega (arith, all, nothing, own, is.2)))
      ]
    ]

-- where no interval from a demand's beginning gets too much, none does
pub none_at_all : (rate : ℕ) (ds : List Demand) (here : Demand) → ((k b : ℕ) → k < length ds → ¬ IsExcess rate ds (get_or ds k here).from b) → (a b : ℕ) → ¬ IsExcess rate ds a b
none_at_all rate ds here none a b e =
    let excess = e.excess in
    let interval = e.interval in
    elim (first_in ds a b here) [
      | inl nothing ↦ absurd (omega (arith, excess, nothing))
      | inr first ↦
          let k = first.0 in
          let is = first.1 in
          let from = (get_or ds k here).from in
          let left : a ≤ (get_or ds k here).from = is.1 in
          let narrower : max (get_or ds k here).from b - (get_or ds k here).from ≤ b - a = omega arith in
          let narrow = mul-le-mul_right rate narrower in
          let wide = wider ds (get_or ds k here).from b (get_or ds k here).from (max (get_or ds k here).from b) (omega arith) (omega arith) in
          none k (max (get_or ds k here).from b) is.0 (record { interval = omega arith; excess = omega (arith, excess, is.2, narrow, wide) })
    ]

-- the order of demands doesn't matter
pub any_order : (rate : ℕ) (ds es : List Demand) (a b : ℕ) → IsPermutation ds es → IsExcess rate es a b → IsExcess rate ds a b
any_order rate ds es a b same e =
    let excess = e.excess in
    record { interval = e.interval; excess = omega (arith, excess, sum_by-IsPermutation (part_within a b) ds es same) }

pub any_order_back : (rate : ℕ) (ds es : List Demand) (a b : ℕ) → IsPermutation ds es → IsExcess rate ds a b → IsExcess rate es a b
any_order_back rate ds es a b same e =
    let excess = e.excess in
    record { interval = e.interval; excess = omega (arith, excess, sum_by-IsPermutation (part_within a b) ds es same) }
