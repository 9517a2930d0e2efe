-- Processes of one node that run within a span take no more than it, and frames hold no more than their capacities.
use Rattle.std.proofs.Common.{◌≡◌, ℕ, zero, suc, ◌+◌, ◌-◌, ◌*◌, ◌<◌, ◌≤◌, ◌⊎◌, ◌==◌, ◌&&◌, nat_le, nat_lt, if◌then◌else◌, Bool, true, Option, None, Some, length, slice_index, arith, inl, inr, refl, ◌∙◌, sym}
use Rattle.std.proofs.lemmas.Bool.{cases_Bool, cases_eq, false≢true, ltb-true, lt-ltb, and_parts, and_from, leb-true, le-leb, eqb-true, eq-eqb}
use Rattle.std.proofs.lemmas.Bool.Decides.{eqb_tells}
use Rattle.std.proofs.Math.Nat.{mul-le-mul_right}
use Rattle.ttp_model.specs.declared.error.Place.TheVariants.{AtCluster}
use Rattle.ttp_model.specs.declared.plan.Plan.{Plan}
use Rattle.ttp_model.specs.Instance.{Instance, message_at, node_of, source_of}
use Rattle.ttp_model.specs.Rules.{IsInstance}
use Rattle.ttp_model.specs.Limits.{both_channels}
use Rattle.ttp_model.specs.Plans.{IsValid, start_of, end_of, round_of, channel_of, is_on, bytes_on}
use Rattle.ttp_model.specs.Totals.{total}
use Rattle.ttp_model.proofs.ValidPlans.{frames_fit_lem, two_apart}
use Rattle.ttp_model.proofs.Totals.{total_more, total_le, total_shared, total_none}
use Rattle.tt_choice.specs.Choice.{Choice, IsFixedTo, IsIn, fixed_channel}
use Rattle.sought_plans.specs.Known.{Known, AreTrueOf, es_of, le_of, lo_of, top_of}
use Rattle.sought_plans.specs.Premises.{wcet_of, runs_within, load_within, sent_within, bytes_within, copies_of, copies, bytes_copied, is_fixed_on, counts_on, bytes_counted}
use Rattle.tt_infer.proofs.Selected.{selected_le, selected_split, span_tells, if_none, if_split, if_wider}

-- the wcet of a process of n that really runs from a to b
really_runs : Instance → Plan → ℕ → ℕ → ℕ → ℕ → Bool
really_runs i plan n a b p = (node_of i p == n) && (nat_le a (start_of plan p) && nat_le (end_of i plan p) b)

runs_from : (i : Instance) (plan : Plan) (n a b p : ℕ) → node_of i p ≡ n → a ≤ start_of plan p → end_of i plan p ≤ b → really_runs i plan n a b p ≡ true
unfolding really_runs
runs_from i plan n a b p node from until = and_from _ _ (eq-eqb _ _ node) (and_from _ _ (le-leb _ _ from) (le-leb _ _ until))

runs_tells : (i : Instance) (plan : Plan) (n a b p : ℕ) → really_runs i plan n a b p ≡ true → (node_of i p ≡ n) × (a ≤ start_of plan p) × (end_of i plan p ≤ b)
unfolding really_runs
runs_tells i plan n a b p h =
    let both = and_parts _ _ h in
    let span = and_parts _ _ both.1 in
    (eqb-true _ _ both.0, leb-true _ _ span.0, leb-true _ _ span.1)

run_load : Instance → Plan → ℕ → ℕ → ℕ → ℕ → ℕ
run_load i plan n a b p = if really_runs i plan n a b p then wcet_of i p else 0

-- By the number of processes: the last one, where it runs in the span, cuts it in two.
runs_fit : (i : Instance) (plan : Plan) (n count a b : ℕ) → IsValid i plan → count ≤ length i.processes → a ≤ b → total (run_load i plan n a b) count + a ≤ b
unfolding run_load
runs_fit i plan n zero a b v few le = omega arith
runs_fit i plan n (suc count) a b v few le = elim (cases_Bool (really_runs i plan n a b count)) [
  | inl in_it ↦
      let tells = runs_tells i plan n a b count in_it in
      let from = start_of plan count in
      let until = end_of i plan count in
      let before = runs_fit i plan n count a from v (omega arith) tells.1 in
      let after = runs_fit i plan n count until b v (omega arith) tells.2 in
      let shared = total_shared (run_load i plan n a b) (run_load i plan n a from) (run_load i plan n until b) count (λ k lt.
      selected_split (really_runs i plan n a b k) (really_runs i plan n a from k) (really_runs i plan n until b k) (wcet_of i k) (λ other.
      let its = runs_tells i plan n a b k other in
      elim (two_apart i plan k count v (omega arith) (omega arith) (omega arith) (its.0 ∙ sym tells.0)) [
        | inl first ↦ inl (runs_from i plan n a from k its.0 its.1 first)
        | inr later ↦ inr (runs_from i plan n until b k its.0 later its.2)
      ])) in
      let last : run_load i plan n a b count ≡ wcet_of i count = rw in_it refl in
      omega (arith, total_more (run_load i plan n a b) count, before, after, shared, last)
  | inr not_in ↦
      let rest = runs_fit i plan n count a b v (omega arith) le in
      let last : run_load i plan n a b count ≡ 0 = rw not_in refl in
      omega (arith, total_more (run_load i plan n a b) count, rest, last)
]

pub loads_fit : (i : Instance) (plan : Plan) (f : Known) (n a b : ℕ) → IsValid i plan → AreTrueOf i plan f → a ≤ b → total (load_within i f n a b) (length i.processes) + a ≤ b
unfolding run_load
loads_fit i plan f n a b v t le =
    let less = total_le (load_within i f n a b) (run_load i plan n a b) (length i.processes) (λ p h.
    selected_le (runs_within i f n a b p) (really_runs i plan n a b p) (wcet_of i p) (λ is.
    let tells = span_tells (node_of i p) n a (es_of f p) (le_of f p) b is in
    runs_from i plan n a b p tells.0 (omega (arith, tells.1, t.es p h)) (omega (arith, tells.2, t.le p h)))) in
    omega (arith, less, runs_fit i plan n (length i.processes) a b v (omega arith) le)

-- the bytes of a message of n that is really sent in a round from a on and before b
really_sent : Instance → Plan → ℕ → ℕ → ℕ → ℕ → Bool
really_sent i plan n a b m = (source_of i m == n) && (nat_le a (round_of plan m) && nat_lt (round_of plan m) b)

sent_from : (i : Instance) (plan : Plan) (n a b m : ℕ) → source_of i m ≡ n → a ≤ round_of plan m → round_of plan m < b → really_sent i plan n a b m ≡ true
unfolding really_sent
sent_from i plan n a b m node from until = and_from _ _ (eq-eqb _ _ node) (and_from _ _ (le-leb _ _ from) (lt-ltb _ _ until))

sent_tells : (i : Instance) (plan : Plan) (n a b m : ℕ) → really_sent i plan n a b m ≡ true → (source_of i m ≡ n) × (a ≤ round_of plan m) × (round_of plan m < b)
unfolding really_sent
sent_tells i plan n a b m h =
    let both = and_parts _ _ h in
    let span = and_parts _ _ both.1 in
    (eqb-true _ _ both.0, leb-true _ _ span.0, ltb-true _ _ span.1)

sent_bytes : Instance → Plan → ℕ → ℕ → ℕ → ℕ → ℕ
sent_bytes i plan n a b m = if really_sent i plan n a b m then (message_at i m).bytes else 0

-- and those that it puts there on a channel, where it is sent on it
sent_on : Instance → Plan → ℕ → ℕ → ℕ → ℕ → ℕ → ℕ
sent_on i plan k n a b m = if is_on k (channel_of plan m) then sent_bytes i plan n a b m else 0

-- in no rounds nothing is sent
none_sent : (i : Instance) (plan : Plan) (k n a m : ℕ) → sent_on i plan k n a (a + 0) m ≡ 0
unfolding sent_on sent_bytes
none_sent i plan k n a m = if_none (is_on k (channel_of plan m)) _ (elim (cases_Bool (really_sent i plan n a (a + 0) m)) [
  | inl is ↦ (let tells = sent_tells i plan n a (a + 0) m is in absurd (omega (arith, tells.1, tells.2)))
  | inr is ↦ rw is refl
])

-- what is sent in one round more is in its frame
one_round_more : (i : Instance) (plan : Plan) (k n a rounds m : ℕ) → sent_on i plan k n a (a + suc rounds) m ≤ sent_on i plan k n a (a + rounds) m + bytes_on i plan n (a + rounds) k m
unfolding sent_on sent_bytes
one_round_more i plan k n a rounds m = if_split (is_on k (channel_of plan m)) _ _ _
    (selected_split (really_sent i plan n a (a + suc rounds) m) (really_sent i plan n a (a + rounds) m) ((source_of i m == n) && (round_of plan m == a + rounds)) (message_at i m).bytes (λ is.
    let tells = sent_tells i plan n a (a + suc rounds) m is in
    elim (cases_eq (round_of plan m) (a + rounds)) [
      | inl last ↦ inr (and_from _ _ (eq-eqb _ _ tells.0) (eq-eqb _ _ last))
      | inr other ↦ inl (sent_from i plan n a (a + rounds) m tells.0 tells.1 (omega (arith, tells.2, other)))
    ]))

-- By the number of rounds: on each channel the last frame holds no more than its capacity.
frames_hold : (i : Instance) (plan : Plan) (k n a rounds : ℕ) → IsValid i plan → k < i.cluster.channels → total (sent_on i plan k n a (a + rounds)) (length i.messages) ≤ rounds * slice_index plan.caps n
frames_hold i plan k n a zero v there =
    let none = total_none (sent_on i plan k n a (a + 0)) (length i.messages) (λ m h. none_sent i plan k n a m) in
    omega (arith, none)
frames_hold i plan k n a (suc rounds) v there =
    let rest = frames_hold i plan k n a rounds v there in
    let frame = frames_fit_lem i plan n (a + rounds) k v there in
    let shared = total_shared (sent_on i plan k n a (a + suc rounds)) (sent_on i plan k n a (a + rounds)) (bytes_on i plan n (a + rounds) k) (length i.messages) (λ m h. one_round_more i plan k n a rounds m) in
    omega (arith, rest, frame, shared)

-- what a message is known to put into frames it really puts there
bytes_sent : (i : Instance) (plan : Plan) (f : Known) (n a b m : ℕ) → AreTrueOf i plan f → m < length i.messages → bytes_within i f n a b m ≤ sent_bytes i plan n a b m
unfolding sent_bytes
bytes_sent i plan f n a b m t there =
    selected_le (sent_within i f n a b m) (really_sent i plan n a b m) (message_at i m).bytes (λ is.
    let tells = span_tells (source_of i m) n a (lo_of f m) (top_of f m) b is in
    sent_from i plan n a b m tells.0 (omega (arith, tells.1, t.lo m there)) (omega (arith, tells.2, t.top m there)))

-- where what is fixed counts on a channel, the message is on it
fixed_is_on : (fixed : Option ℕ) (k number : ℕ) → IsFixedTo fixed number → is_fixed_on k fixed ≡ true → is_on k number ≡ true
fixed_is_on None k number is counts = absurd (false≢true counts)
fixed_is_on (Some fixed) k number is counts = rw is counts

-- what is fixed is both channels, or the message counts once
once_or_both : (fixed : Option ℕ) (number : ℕ) → IsFixedTo fixed number → (copies_of fixed ≡ 1) ⊎ ((copies_of fixed ≡ 2) × (number ≡ both_channels))
once_or_both None number is = inl refl
once_or_both (Some fixed) number is = elim (eqb_tells fixed both_channels) [
  | inl both ↦ inr (rw both.0 refl, is ∙ both.1)
  | inr other ↦ inl (rw other.0 refl)
]

on_first_or_second : (number : ℕ) → number ≤ both_channels → (is_on 0 number ≡ true) ⊎ (is_on 1 number ≡ true)
on_first_or_second number known = elim (cases_eq number 1) [
  | inl second ↦ inr (rw second refl)
  | inr other ↦ elim (cases_eq number 0) [
    | inl first ↦ inl (rw first refl)
    | inr more ↦ (let both : number ≡ 2 = omega (arith, known, other, more) in inl (rw both refl))
  ]
]

-- all of it is sent on a channel that the message is on
all_sent : (i : Instance) (plan : Plan) (k n a b m : ℕ) → is_on k (channel_of plan m) ≡ true → sent_on i plan k n a b m ≡ sent_bytes i plan n a b m
unfolding sent_on
all_sent i plan k n a b m on = rw on refl

counted_once : (count x y z : ℕ) → count ≡ 1 → x ≤ y → y ≤ z → count * x ≤ z
counted_once count x y z once le more = rw once (omega (arith, le, more))

counted_twice : (count x y z : ℕ) → count ≡ 2 → x ≤ y → y ≤ z → count * x ≤ y + z
counted_twice count x y z twice le more = rw twice (omega (arith, le, more))

module _ (i : Instance) (c : Choice) (plan : Plan) (f : Known) (n a b : ℕ) (v : IsValid i plan) (inside : IsIn i c plan) (t : AreTrueOf i plan f) where
  -- what counts on a channel is sent on it
  counted_sent : (k m : ℕ) → m < length i.messages → bytes_counted i c f k n a b m ≤ sent_on i plan k n a b m
  unfolding sent_on
  counted_sent k m there =
      if_wider (counts_on c k m) (is_on k (channel_of plan m)) (bytes_within i f n a b m) (sent_bytes i plan n a b m) (fixed_is_on (fixed_channel c m) k (channel_of plan m) (inside.channels m there)) (bytes_sent i plan f n a b m t there)

  pub counted_fit : (k : ℕ) → k < i.cluster.channels → a ≤ b → total (bytes_counted i c f k n a b) (length i.messages) ≤ (b - a) * slice_index plan.caps n
  counted_fit k there le =
      let is : a + (b - a) ≡ b = omega arith in
      let less = total_le (bytes_counted i c f k n a b) (sent_on i plan k n a b) (length i.messages) (λ m h. counted_sent k m h) in
      let hold = rw is at (frames_hold i plan k n a (b - a) v there) in
      omega (arith, less, hold)

  -- with one channel all is sent on it
  sent_on_first : i.cluster.channels ≡ 1 → (m : ℕ) → m < length i.messages → bytes_copied i c f n a b m ≤ sent_on i plan 0 n a b m
  sent_on_first alone m there =
      let first : channel_of plan m ≡ 0 = (v.on_own m there).alone alone in
      let within = bytes_sent i plan f n a b m t there in
      let all = all_sent i plan 0 n a b m (rw first refl) in
      elim (once_or_both (fixed_channel c m) (channel_of plan m) (inside.channels m there)) [
        | inl once ↦ counted_once (copies c m) (bytes_within i f n a b m) (sent_bytes i plan n a b m) (sent_on i plan 0 n a b m) once within (omega (arith, all))
        | inr both ↦ absurd (omega (arith, first, both.1))
      ]

  -- with more each message is on the first two as often as it counts
  sent_on_both : (m : ℕ) → m < length i.messages → bytes_copied i c f n a b m ≤ sent_on i plan 0 n a b m + sent_on i plan 1 n a b m
  sent_on_both m there =
      let within = bytes_sent i plan f n a b m t there in
      elim (once_or_both (fixed_channel c m) (channel_of plan m) (inside.channels m there)) [
        | inl once ↦ counted_once (copies c m) (bytes_within i f n a b m) (sent_bytes i plan n a b m) _ once within (elim (on_first_or_second (channel_of plan m) (v.on_own m there).known) [
          | inl first ↦ omega (arith, all_sent i plan 0 n a b m first)
          | inr second ↦ omega (arith, all_sent i plan 1 n a b m second)
        ])
        | inr both ↦
            let first = all_sent i plan 0 n a b m (rw both.1 refl) in
            let second = all_sent i plan 1 n a b m (rw both.1 refl) in
            let twice = counted_twice (copies c m) (bytes_within i f n a b m) (sent_bytes i plan n a b m) (sent_bytes i plan n a b m) both.0 within (omega arith) in
            omega (arith, twice, first, second)
      ]

  pub copies_fit : IsInstance i → a ≤ b → total (bytes_copied i c f n a b) (length i.messages) ≤ i.cluster.channels * ((b - a) * slice_index plan.caps n)
  copies_fit w le =
      let is : a + (b - a) ≡ b = omega arith in
      let hold = λ (k : ℕ) (there : k < i.cluster.channels). rw is at (frames_hold i plan k n a (b - a) v there) in
      elim (cases_eq i.cluster.channels 1) [
        | inl alone ↦
            let less = total_le (bytes_copied i c f n a b) (sent_on i plan 0 n a b) (length i.messages) (sent_on_first alone) in
            rw alone (omega (arith, less, hold 0 (omega (arith, alone))))
        | inr other ↦
            let two : 2 ≤ i.cluster.channels = omega (arith, other, (w.ranges AtCluster).channels_least) in
            let less = total_shared (bytes_copied i c f n a b) (sent_on i plan 0 n a b) (sent_on i plan 1 n a b) (length i.messages) sent_on_both in
            let room = mul-le-mul_right ((b - a) * slice_index plan.caps n) two in
            omega (arith, less, hold 0 (omega (arith, two)), hold 1 (omega (arith, two)), room)
      ]
