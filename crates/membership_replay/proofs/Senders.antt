-- Which node sends in a slot of the cycle, and that three slots running have three senders.
use Rattle.std.proofs.Common.{◌≡◌, ◌≢◌, ℕ, zero, suc, ◌+◌, ◌*◌, ◌<◌, ◌≤◌, List, ◌++◌, length, get_or, slice_index, slice_index_or, [], arith, sym, ap, add-one, inl, inr, subst, length-append, ◌∙◌, ◌/◌, ◌%◌}
use Rattle.std.specs.List.{flat_map, range_with_len}
use Rattle.std.proofs.Math.Nat.{div-lt_iff_lt-mul, mul-le-mul_left}
use Rattle.std.proofs.lemmas.Bool.{cases_order}
use Rattle.std.proofs.lemmas.List.{get_or-append-add, get_or_append_left}
use Rattle.std.proofs.lemmas.List.FromFn.{get_or-map-range_with_len, length-map-range_with_len}
use Rattle.ttp_model.specs.Instance.{Instance}
use Rattle.ttp_model.specs.Plans.{IsNodeOrder}
use Rattle.tt_layout.specs.Cycle.{cycle_rounds}
use Rattle.medl_tables.specs.declared.row.Row.{Row}
use Rattle.medl_tables.specs.Rows.{round_rows, row_of, rows_of}
use Rattle.medl_tables.specs.Medl.{AreTables, Medl}
use Rattle.membership_replay.specs.Trace.{no_row, row_at, slot_count}
use Rattle.tt_layout.proofs.Ranges.{flat_map-range_with_len_more}

module _ {X : Type 0} (f : ℕ → List X) (n : ℕ) (each : (r : ℕ) → length (f r) ≡ n) where
  rounds-suc : (r : ℕ) → flat_map f (range_with_len 0 (suc r)) ≡ flat_map f (range_with_len 0 r) ++ f r
  rounds-suc r = sym (rw add-one at (flat_map-range_with_len_more f r))

  pub length-rounds : (r : ℕ) → length (flat_map f (range_with_len 0 r)) ≡ r * n
  length-rounds zero = omega arith
  length-rounds (suc r) = omega (arith, ap length (rounds-suc r), length-append (flat_map f (range_with_len 0 r)) (f r), length-rounds r, each r)

  pub rounds-at : (count r k : ℕ) (d : X) → r < count → k < n → get_or (flat_map f (range_with_len 0 count)) (r * n + k) d ≡ get_or (f r) k d
  rounds-at zero r k d first second = absurd (omega arith)
  rounds-at (suc count) r k d first second =
      let before = flat_map f (range_with_len 0 count) in
      subst (λ (xs : List X). get_or xs (r * n + k) d ≡ get_or (f r) k d) (sym (rounds-suc count)) (elim (cases_order r count) [
        | inl same ↦ (let last : r * n + k ≡ length before + k = omega (arith, length-rounds count, ap (λ x. x * n) same) in rw (last, same) (get_or-append-add before (f count) k d))
        | inr other ↦ elim other [
          | inl below ↦ (let rows : n * suc r ≤ n * count = mul-le-mul_left n below in get_or_append_left before (f count) d (r * n + k) (omega (arith, length-rounds count, rows, second)) ∙ rounds-at count r k d below second)
          | inr above ↦ absurd (omega (arith, above, first))
        ]
      ])

-- numbers less than n apart have different remainders
mod-differs : (x y n : ℕ) → 0 < n → x < y → y < x + n → x % n ≢ y % n
mod-differs x y n some above near = λ same. elim (cases_order (x / n) (y / n)) [
  | inl equal ↦ omega (arith, ap (λ q. n * q) equal, same)
  | inr other ↦ elim other [
    | inl less ↦ (let more : n * suc (x / n) ≤ n * (y / n) = mul-le-mul_left n less in omega (arith, more, same))
    | inr greater ↦ (let more : n * suc (y / n) ≤ n * (x / n) = mul-le-mul_left n greater in omega (arith, more, same))
  ]
]

order-differs : (count : ℕ) (order : List ℕ) (j k : ℕ) → IsNodeOrder count order → j < length order → k < length order → j ≢ k → slice_index order j ≢ slice_index order k
order-differs count order j k o first second other = elim (cases_order j k) [
  | inl same ↦ absurd (other same)
  | inr apart ↦ elim apart [
    | inl below ↦ (o.each k (omega (arith, second, o.all))).first j below
    | inr above ↦ (λ same. (o.each j (omega (arith, first, o.all))).first k above (sym same))
  ]
]

-- the sender of a slot is another than those of the two slots after it
pub record HasThreeSenders (t : Medl) (slot : ℕ) : Type 0 where
  pub first : (row_at t 0 (slot + 1)).sender ≢ (row_at t 0 slot).sender
  pub second : (row_at t 0 (slot + 2)).sender ≢ (row_at t 0 slot).sender

module _ (i : Instance) (t : Medl) (w : AreTables i t) (some : 0 < length i.nodes) where
  pub rows-first : slice_index_or t.rows 0 [] ≡ rows_of i w.plan 0
  rows-first = rw w.of (get_or-map-range_with_len (rows_of i w.plan) 0 (length i.nodes) 0 0 [] some (omega arith))

  pub round-length : (r : ℕ) → length (round_rows i w.plan 0 r) ≡ length w.plan.order
  round-length r = length-map-range_with_len (row_of i w.plan 0 r) 0 (length w.plan.order)

  slots : slot_count t ≡ cycle_rounds i w.plan * length w.plan.order
  slots = ap length rows-first ∙ length-rounds (round_rows i w.plan 0) (length w.plan.order) round-length (cycle_rounds i w.plan)

  sender-at : (slot : ℕ) → slot < slot_count t → (row_at t 0 slot).sender ≡ slice_index w.plan.order (slot % length w.plan.order)
  sender-at slot inside =
      let n = length w.plan.order in
      let rounds = cycle_rounds i w.plan in
      let slots_some : 0 < n = omega (arith, some, w.valid.order.all) in
      let first : slot / n < rounds = (div-lt_iff_lt-mul {k = n} {x = slot} {y = rounds} slots_some).1 (omega (arith, inside, slots)) in
      let second : slot % n < n = omega arith in
      let split : slot ≡ (slot / n) * n + slot % n = omega arith in
      let told = rounds-at (round_rows i w.plan 0) n round-length rounds (slot / n) (slot % n) no_row first second in
      let row = get_or-map-range_with_len (row_of i w.plan 0 (slot / n)) 0 n (slot % n) (slot % n) no_row second (omega arith) in
      let at_split : get_or (rows_of i w.plan 0) slot no_row ≡ get_or (rows_of i w.plan 0) ((slot / n) * n + slot % n) no_row = ap (λ k. get_or (rows_of i w.plan 0) k no_row) split in
      let read : row_at t 0 slot ≡ get_or (rows_of i w.plan 0) slot no_row = ap (λ (rows : List Row). get_or rows slot no_row) rows-first in
      ap (λ (row : Row). row.sender) (read ∙ at_split ∙ told ∙ row)

  apart : (slot other : ℕ) → 3 ≤ length i.nodes → slot < other → other < slot + 3 → other < slot_count t → (row_at t 0 other).sender ≢ (row_at t 0 slot).sender
  apart slot other enough above near inside =
      let n = length w.plan.order in
      let nodes : 3 ≤ n = omega (arith, enough, w.valid.order.all) in
      let differ : slot % n ≢ other % n = mod-differs slot other n (omega (arith, nodes)) above (omega (arith, near, nodes)) in
      let senders = order-differs (length i.nodes) w.plan.order (slot % n) (other % n) w.valid.order (omega (arith, nodes)) (omega (arith, nodes)) differ in
      λ same. senders (sym (sender-at slot (omega (arith, inside, above))) ∙ sym same ∙ sender-at other inside)

  pub three_senders : (slot : ℕ) → 3 ≤ length i.nodes → slot + 2 < slot_count t → HasThreeSenders t slot
  three_senders slot enough room = record {
    first = apart slot (slot + 1) enough (omega arith) (omega arith) (omega (arith, room));
    second = apart slot (slot + 2) enough (omega arith) (omega arith) room;
  }
