-- Each order and capacities that agree with a choice have times between the extremes.
use Rattle.std.proofs.Common.{◌≡◌, ℕ, zero, suc, ◌-◌, ◌<◌, ◌≤◌, ◌==◌, List, ◌∷◌, length, slice_index, take, arith, inl, inr, ◌∙◌, sym, ap, length-take, Option, None, Some, Contains}
use Rattle.std.specs.List.Sorted.{IsStrictlyIncreasing}
use Rattle.std.proofs.Math.Nat.{mul-le-mul_left, mul-le-mul_right}
use Rattle.std.proofs.lemmas.List.Sums.{sum_by-cons, prefix_len-le-length, fails_before_first, passes_at_first, position_or_len_is}
use Rattle.std.proofs.lemmas.Bool.{cases_lt, eqb-true, eqb-false, lt-ltb, le-ltb}
use Rattle.std.proofs.lemmas.Grind.{common_steps, get_or_default_zero}
use Rattle.ttp_model.specs.Lists.{HasNoRepeats}
use Rattle.ttp_model.specs.Instance.{Instance, node_at}
use Rattle.ttp_model.specs.Rules.{IsInstance}
use Rattle.ttp_model.specs.Slots.{slot_duration, round_length, slot_start, slot_end, offset, duration}
use Rattle.ttp_model.specs.Totals.{total}
use Rattle.ttp_model.proofs.Times.{rising_le}
use Rattle.ttp_model.proofs.Totals.{total_le, total_longer, part_of_total, list_total, take_total}
use Rattle.tt_choice.specs.Choice.{Choice, fixed_cap, Agrees, IsFixedTo, IsChoice}
use Rattle.tt_choice.specs.Extremes.{least_option, most_option, cap_least, cap_most, dur_least, dur_most, place_of, offset_least, offset_most, start_least, start_most, end_least, end_most}

-- Capacities and durations.
between : (i : Instance) (n capacity : ℕ) (o : Option ℕ) → IsStrictlyIncreasing (node_at i n).capacities → Contains (node_at i n).capacities capacity → IsFixedTo o capacity → (least_option i n o ≤ capacity) × (capacity ≤ most_option i n o)
between i n capacity None rising own fixed =
    let xs = (node_at i n).capacities in
    let here : slice_index xs own.0 ≡ capacity = sym (get_or_default_zero xs own.0 capacity own.1) ∙ own.2 in
    let low = rising_le xs rising 0 own.0 (omega arith) own.1 in
    let high = rising_le xs rising own.0 (length xs - 1) (omega (arith, own.1)) (omega (arith, own.1)) in
    (omega (arith, here, low), omega (arith, here, high))
between i n capacity (Some k) rising own fixed = (omega (arith, fixed), omega (arith, fixed))

pub capacity_between : (i : Instance) (c : Choice) (order caps : List ℕ) (n : ℕ) → IsInstance i → Agrees i c order caps → n < length i.nodes → (cap_least i c n ≤ slice_index caps n) × (slice_index caps n ≤ cap_most i c n)
capacity_between i c order caps n w a h = between i n (slice_index caps n) (fixed_cap c n) (w.capacities n h).rising (a.own n h).own (a.fixed n h)

pub duration_between : (i : Instance) (c : Choice) (order caps : List ℕ) (n : ℕ) → IsInstance i → Agrees i c order caps → n < length i.nodes → (dur_least i c n ≤ duration i.cluster caps n) × (duration i.cluster caps n ≤ dur_most i c n)
duration_between i c order caps n w a h =
    let b = capacity_between i c order caps n w a h in
    (omega (arith, mul-le-mul_left i.cluster.per_byte b.0), omega (arith, mul-le-mul_left i.cluster.per_byte b.1))

-- Rounds.
pub round_between : (i : Instance) (c : Choice) (order caps : List ℕ) → IsInstance i → Agrees i c order caps → (total (dur_least i c) (length i.nodes) ≤ round_length i.cluster caps) × (round_length i.cluster caps ≤ total (dur_most i c) (length i.nodes))
round_between i c order caps w a =
    let is = list_total (slot_duration i.cluster) caps in
    let count = ap (total (duration i.cluster caps)) a.caps_length in
    let low = total_le (dur_least i c) (duration i.cluster caps) (length i.nodes) (λ n h. (duration_between i c order caps n w a h).0) in
    let high = total_le (duration i.cluster caps) (dur_most i c) (length i.nodes) (λ n h. (duration_between i c order caps n w a h).1) in
    (omega (arith, is, count, low), omega (arith, is, count, high))

-- Offsets.
pub place_le : (n : ℕ) (xs : List ℕ) → place_of n xs ≤ length xs
place_le n xs = prefix_len-le-length _ xs

-- the place in the prefix is at most that in the order, and the same where n is placed
place_below : (i : Instance) (c : Choice) (order caps : List ℕ) (n : ℕ) → IsChoice i c → Agrees i c order caps → place_of n c.prefix ≤ place_of n order
place_below i c order caps n ok a = elim (cases_lt (place_of n order) (place_of n c.prefix)) [
  | inl sooner ↦
      let within : place_of n order < length order = omega (arith, sooner, place_le n c.prefix, ok.few, a.nodes.all) in
      let at = passes_at_first (λ m. m == n) order 0 within in
      let not = fails_before_first (λ m. m == n) c.prefix (place_of n order) 0 sooner in
      let same = a.prefix (place_of n order) (omega (arith, sooner, place_le n c.prefix)) in
      absurd (eqb-false _ _ not (sym same ∙ eqb-true _ _ at))
  | inr later ↦ later
]

pub place_same : (i : Instance) (c : Choice) (order caps : List ℕ) (n : ℕ) → IsChoice i c → Agrees i c order caps → place_of n c.prefix < length c.prefix → place_of n order ≡ place_of n c.prefix
place_same i c order caps n ok a h =
    position_or_len_is (λ m. m == n) order (place_of n c.prefix) 0 (omega (arith, h, ok.few, a.nodes.all))
    (λ k lt. rw (a.prefix k (omega (arith, lt, h))) (fails_before_first (λ m. m == n) c.prefix k 0 lt))
    (λ lt. rw (a.prefix (place_of n c.prefix) h) (passes_at_first (λ m. m == n) c.prefix 0 h))

-- a node of the order is one of the instance
node_at_place : (i : Instance) (c : Choice) (order caps : List ℕ) (k : ℕ) → Agrees i c order caps → k < length order → slice_index order k < length i.nodes
node_at_place i c order caps k a h = (a.nodes.each k (omega (arith, h, a.nodes.all))).node

pub offset_is : (i : Instance) (caps order : List ℕ) (n : ℕ) → offset i.cluster order caps n ≡ total (λ k. duration i.cluster caps (slice_index order k)) (place_of n order)
offset_is i caps order n = take_total (duration i.cluster caps) order (place_of n order) (place_le n order)

pub offset_above : (i : Instance) (c : Choice) (order caps : List ℕ) (n : ℕ) → IsInstance i → IsChoice i c → Agrees i c order caps → offset_least i c n ≤ offset i.cluster order caps n
offset_above i c order caps n w ok a =
    let j = place_of n c.prefix in
    let f = λ (k : ℕ). duration i.cluster caps (slice_index order k) in
    let is = take_total (dur_least i c) c.prefix j (place_le n c.prefix) in
    let each = total_le (λ k. dur_least i c (slice_index c.prefix k)) f j (λ k lt.
    let placed : k < length c.prefix = omega (arith, lt, place_le n c.prefix) in
    let node = node_at_place i c order caps k a (omega (arith, placed, ok.few, a.nodes.all)) in
    rw (← a.prefix k placed) (duration_between i c order caps (slice_index order k) w a node).0) in
    omega (arith, is, each, total_longer f j (place_of n order) (place_below i c order caps n ok a), offset_is i caps order n)

at_take : (xs : List ℕ) (j k : ℕ) → k < j → slice_index (take j xs) k ≡ slice_index xs k
at_take xs j k lt = grind (arith, common_steps)

before_length : (xs : List ℕ) (j k : ℕ) → k < length (take j xs) → k < j
before_length xs j k lt = omega (arith, length-take j xs)

before_whole : (xs : List ℕ) (j k : ℕ) → k < length (take j xs) → k < length xs
before_whole xs j k lt = omega (arith, length-take j xs)

-- n and the nodes before it are different
before_once : (i : Instance) (c : Choice) (order caps : List ℕ) (n : ℕ) → Agrees i c order caps → HasNoRepeats (n ∷ take (place_of n order) order)
before_once i c order caps n a zero zero lt within = absurd (omega arith)
before_once i c order caps n a (suc j) zero lt within = absurd (omega arith)
before_once i c order caps n a zero (suc k) lt within =
    let here : k < place_of n order = before_length order (place_of n order) k (omega arith) in
    let not = eqb-false _ _ (fails_before_first (λ m. m == n) order k 0 here) in
    λ same. not (sym (same ∙ at_take order (place_of n order) k here))
before_once i c order caps n a (suc j) (suc k) lt within =
    let here : k < place_of n order = before_length order (place_of n order) k (omega arith) in
    let there : j < place_of n order = omega arith in
    let not = (a.nodes.each k (omega (arith, here, place_le n order, a.nodes.all))).first j (omega arith) in
    λ same. not (sym (at_take order (place_of n order) j there) ∙ same ∙ at_take order (place_of n order) k here)

pub offset_below : (i : Instance) (c : Choice) (order caps : List ℕ) (n : ℕ) → IsInstance i → IsChoice i c → Agrees i c order caps → n < length i.nodes → offset i.cluster order caps n ≤ offset_most i c n
offset_below i c order caps n w ok a inside =
    let f = λ (k : ℕ). duration i.cluster caps (slice_index order k) in
    let g = λ (k : ℕ). dur_most i c (slice_index order k) in
    let spot = place_of n order in
    let each : total f spot ≤ total g spot = total_le f g spot (λ k lt.
    let node = node_at_place i c order caps k a (omega (arith, lt, place_le n order)) in
    (duration_between i c order caps (slice_index order k) w a node).1) in
    let is = offset_is i caps order n in
    elim (cases_lt (place_of n c.prefix) (length c.prefix)) [
      | inl placed ↦
          let j = place_of n c.prefix in
          let same = place_same i c order caps n ok a placed in
          let sum_is = take_total (dur_most i c) c.prefix j (place_le n c.prefix) in
          let at_prefix : total g j ≤ total (λ k. dur_most i c (slice_index c.prefix k)) j = total_le g (λ k. dur_most i c (slice_index c.prefix k)) j (λ k lt. let eq = ap (dur_most i c) (a.prefix k (omega (arith, lt, placed))) in omega (arith, eq)) in
          rw (lt-ltb _ _ placed) (omega (arith, is, each, ap (total g) same, sum_is, at_prefix))
      | inr free ↦
          let whole = part_of_total (dur_most i c) (length i.nodes) (n ∷ take spot order) (within spot) (before_once i c order caps n a) in
          let parts = sum_by-cons (dur_most i c) n (take spot order) in
          let sum_is = take_total (dur_most i c) order spot (place_le n order) in
          rw (le-ltb _ _ free) (omega (arith, is, each, whole, parts, sum_is))
    ]
  where
    within : (spot : ℕ) (k : ℕ) → k < length (n ∷ take spot order) → slice_index (n ∷ take spot order) k < length i.nodes
    within spot zero h = inside
    within spot (suc k) h =
        let here : k < spot = before_length order spot k (omega arith) in
        let there : k < length order = before_whole order spot k (omega arith) in
        rw (at_take order spot k here) (node_at_place i c order caps k a there)

-- Times.
pub start_between : (i : Instance) (c : Choice) (order caps : List ℕ) (n r : ℕ) → IsInstance i → IsChoice i c → Agrees i c order caps → n < length i.nodes → (start_least i c n r ≤ slot_start i.cluster order caps n r) × (slot_start i.cluster order caps n r ≤ start_most i c n r)
start_between i c order caps n r w ok a h =
    let round = round_between i c order caps w a in
    (omega (arith, mul-le-mul_left r round.0, offset_above i c order caps n w ok a), omega (arith, mul-le-mul_left r round.1, offset_below i c order caps n w ok a h))

pub end_between : (i : Instance) (c : Choice) (order caps : List ℕ) (n r : ℕ) → IsInstance i → IsChoice i c → Agrees i c order caps → n < length i.nodes → (end_least i c n r ≤ slot_end i.cluster order caps n r) × (slot_end i.cluster order caps n r ≤ end_most i c n r)
end_between i c order caps n r w ok a h =
    let s = start_between i c order caps n r w ok a h in
    let d = duration_between i c order caps n w a h in
    (omega (arith, s.0, d.0), omega (arith, s.1, d.1))

-- a later round is later
pub start_least_later : (i : Instance) (c : Choice) (n r s : ℕ) → r ≤ s → start_least i c n r ≤ start_least i c n s
start_least_later i c n r s le = omega (arith, mul-le-mul_right (total (dur_least i c) (length i.nodes)) le)

pub start_most_later : (i : Instance) (c : Choice) (n r s : ℕ) → r ≤ s → start_most i c n r ≤ start_most i c n s
start_most_later i c n r s le = omega (arith, mul-le-mul_right (total (dur_most i c) (length i.nodes)) le)

pub end_least_later : (i : Instance) (c : Choice) (n r s : ℕ) → r ≤ s → end_least i c n r ≤ end_least i c n s
end_least_later i c n r s le = omega (arith, start_least_later i c n r s le)

pub end_most_later : (i : Instance) (c : Choice) (n r s : ℕ) → r ≤ s → end_most i c n r ≤ end_most i c n s
end_most_later i c n r s le = omega (arith, start_most_later i c n r s le)
