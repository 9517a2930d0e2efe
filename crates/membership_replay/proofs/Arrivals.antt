-- Where no frame is lost, each message of a plan is delivered in its round at the node of each of its receivers.
use Rattle.std.proofs.Common.{◌≡◌, ◌≢◌, ◌∙◌, ℕ, zero, suc, ◌+◌, ◌*◌, ◌<◌, ◌≤◌, ◌==◌, ◌||◌, Bool, true, false, cond, List, [], ◌∷◌, Contains, length, get_or, slice_index, slice_index_or, map, filter, arith, refl, sym, ap, inl, inr, eq-eqb}
use Rattle.std.specs.Int.{div_ceil}
use Rattle.std.specs.List.{list_any, range_with_len}
use Rattle.std.proofs.Math.Nat.{mul-le-mul_left}
use Rattle.std.proofs.lemmas.Bool.{cases_order}
use Rattle.std.proofs.lemmas.Grind.{div_ceil_times, get_or_default_zero}
use Rattle.std.proofs.lemmas.List.Elements.{All-contains, Contains-append_right}
use Rattle.std.proofs.lemmas.List.Folds.{list_any_at}
use Rattle.std.proofs.lemmas.List.FromFn.{get_or-map-range_with_len, length-map-range_with_len}
use Rattle.ttp_model.specs.declared.error.Place.TheVariants.{AtCluster, AtProcess}
use Rattle.ttp_model.specs.declared.plan.Plan.{Plan}
use Rattle.ttp_model.specs.Instance.{Instance, message_at, node_of, source_of}
use Rattle.ttp_model.specs.Rules.{IsInstance}
use Rattle.ttp_model.specs.Slots.{round_length}
use Rattle.ttp_model.specs.Plans.{IsValid, channel_of, end_of, is_on, round_of}
use Rattle.ttp_model.specs.Delays.{delay}
use Rattle.ttp_model.proofs.Channels.{on_some_channel}
use Rattle.ttp_model.proofs.Orders.{every_node}
use Rattle.ttp_model.proofs.PlanNumbers.{receiver_inside, sender_inside, some_caps}
use Rattle.ttp_model.proofs.Times.{round_length-positive}
use Rattle.ttp_model.proofs.ValidPlans.{greatest_each}
use Rattle.tt_layout.specs.Cycle.{cycle_rounds}
use Rattle.medl_tables.specs.declared.row.Entry.{Entry}
use Rattle.medl_tables.specs.declared.row.Row.{Row}
use Rattle.medl_tables.specs.Rows.{entries_of, entries_on, entry_of, is_entry, round_rows, row_of, rows_of}
use Rattle.medl_tables.specs.Medl.{AreTables, Medl, medl_of}
use Rattle.medl_tables.proofs.TableParts.{tables-length}
use Rattle.membership_replay.specs.declared.loss.Loss.{Loss}
use Rattle.membership_replay.specs.declared.trace.Event.TheVariants.{Deliver}
use Rattle.membership_replay.specs.Trace.{Trace, no_row, replay_of, row_at, slot_count, slot_of}
use Rattle.membership_replay.specs.Undisturbed.{EachMessageArrives, IsDelivered, no_slot, slot_at}
use Rattle.membership_replay.proofs.Deliveries.{Contains-flat_map-range}
use Rattle.membership_replay.proofs.Delivered.{all_arrive}
use Rattle.membership_replay.proofs.Senders.{length-rounds, rounds-at}

-- what is whole in fewer than d ticks is in a round that begins before d
lt-div_ceil : (r d round : ℕ) → 0 < round → r * round < d → r < div_ceil d round
lt-div_ceil r d round some early =
    let enough = (div_ceil_times d round some).0 in
    elim (cases_order r (div_ceil d round)) [
      | inl same ↦ absurd (omega (arith, enough, early, ap (λ x. x * round) same))
      | inr other ↦ elim other [
        | inl below ↦ below
        | inr above ↦ (let more : round * suc (div_ceil d round) ≤ round * r = mul-le-mul_left round above in absurd (omega (arith, enough, early, more)))
      ]
    ]

-- an element that passes the test is kept
Contains-filter : {X : Type 0} (p : X → Bool) (xs : List X) (x : X) → p x ≡ true → Contains xs x → Contains (filter p xs) x
Contains-filter {X} p xs x passes there = at xs there.0 there.1 there.2
  where
    at : (ys : List X) (k : ℕ) → k < length ys → slice_index_or ys k x ≡ x → Contains (filter p ys) x
    at [] k inside is = absurd (omega arith)
    at (y ∷ ys) zero inside is = rw (is, passes) (0, omega arith, refl)
    at (y ∷ ys) (suc k) inside is =
        let rest = at ys k (omega (arith, inside)) is in
        elim (p y) as (λ b. Contains (cond b (y ∷ filter p ys) (filter p ys)) x) [
          | true ↦ Contains-append_right (y ∷ []) (filter p ys) x rest
          | false ↦ rest
        ]

Contains-map-range : {X : Type 0} (f : ℕ → X) (n k : ℕ) → k < n → Contains (map f (range_with_len 0 n)) (f k)
Contains-map-range f n k inside =
    (k, omega (arith, inside, length-map-range_with_len f 0 n), get_or-map-range_with_len f 0 n k k (f k) inside (omega arith))

-- the node's table lists the message in its frame, on some channel
pub record IsShown (i : Instance) (plan : Plan) (m node : ℕ) : Type 0 where
  pub channel : ℕ
  pub listed : Contains (entries_of i plan node (source_of i m) (round_of plan m)) (entry_of i plan (source_of i m) (round_of plan m) channel m)

module _ (i : Instance) (plan : Plan) (w : IsInstance i) (v : IsValid i plan) where
  -- a message's slot ends before some receiver does, so its round is one of the cycle
  round_inside : (m : ℕ) → m < length i.messages → round_of plan m < cycle_rounds i plan
  round_inside m h =
      let some = w.receivers m h in
      let q = slice_index (message_at i m).receivers 0 in
      let inside = receiver_inside i plan w v m 0 h some in
      let last = greatest_each (end_of i plan) (length i.processes) q inside in
      let early : round_of plan m * round_length i.cluster plan.caps < delay i plan = omega (arith, v.arrived m h 0 some, last, (w.ranges (AtProcess q) inside).wcet_least) in
      lt-div_ceil (round_of plan m) (delay i plan) (round_length i.cluster plan.caps) (round_length-positive i.cluster plan.caps (w.ranges AtCluster) (some_caps i plan w v)) early

  -- the table of a receiver's node shows it on each channel that it is on
  shown_on : (m node k c : ℕ) → m < length i.messages → k < length (message_at i m).receivers
      → node_of i (slice_index (message_at i m).receivers k) ≡ node → is_on c (channel_of plan m) ≡ true
      → let n = source_of i m in let r = round_of plan m in Contains (entries_on i plan node n r c) (entry_of i plan n r c m)
  shown_on m node k c h inside is on =
      let n = source_of i m in
      let r = round_of plan m in
      let receivers = (message_at i m).receivers in
      let has = λ (q : ℕ). node_of i q == node in
      let received : list_any (λ q. node_of i q == node) receivers ≡ true = list_any_at has receivers k 0 inside (eq-eqb _ _ is) in
      let entry : is_entry i plan node n r c m ≡ true = rw (eq-eqb n n refl, eq-eqb r r refl, on, received) (or-true (n == node)) in
      let each = entry_of i plan n r c in
      let one = Contains-map-range each (length i.messages) m h in
      Contains-filter (λ (e : Entry). is_entry i plan node n r c e.message) (map each (range_with_len 0 (length i.messages))) (each m) entry one
    where
      or-true : (b : Bool) → (b || true) ≡ true
      or-true true = refl
      or-true false = refl

  -- so it does on some channel of the cluster
  shown : (m node k : ℕ) → m < length i.messages → k < length (message_at i m).receivers
      → node_of i (slice_index (message_at i m).receivers k) ≡ node → IsShown i plan m node
  shown m node k h inside is =
      let on = on_some_channel i plan m w v h in
      let entries = entries_on i plan node (source_of i m) (round_of plan m) in
      let entry = entry_of i plan (source_of i m) (round_of plan m) on.0 m in
      record {
        channel = on.0;
        listed = Contains-flat_map-range entries i.cluster.channels on.0 entry on.1 (shown_on m node k on.0 h inside is on.2);
      }

  module _ (t : Medl) (is : t ≡ medl_of i plan) where
    are_tables : AreTables i t
    are_tables = record { plan = plan; valid = v; of = is }

    table-is : (node : ℕ) → node < length i.nodes → slice_index_or t.rows node [] ≡ rows_of i plan node
    table-is node inside = rw is (get_or-map-range_with_len (rows_of i plan) 0 (length i.nodes) node node [] inside (omega arith))

    round-is : (node r : ℕ) → length (round_rows i plan node r) ≡ length plan.order
    round-is node r = length-map-range_with_len (row_of i plan node r) 0 (length plan.order)

    slots-are : slot_count t ≡ cycle_rounds i plan * length plan.order
    slots-are = ap length (table-is 0 w.limits.nodes_least) ∙ length-rounds (round_rows i plan 0) (length plan.order) (round-is 0) (cycle_rounds i plan)

    -- the row of a node's table for the slot at position k in round r
    row-is : (node r k : ℕ) → node < length i.nodes → r < cycle_rounds i plan → k < length plan.order → row_at t node (r * length plan.order + k) ≡ row_of i plan node r k
    row-is node r k there round inside =
        ap (λ (rows : List Row). get_or rows (r * length plan.order + k) no_row) (table-is node there)
        ∙ rounds-at (round_rows i plan node) (length plan.order) (round-is node) (cycle_rounds i plan) r k no_row round inside
        ∙ get_or-map-range_with_len (row_of i plan node r) 0 (length plan.order) k k no_row inside (omega arith)

    slot_inside : (r k : ℕ) → r < cycle_rounds i plan → k < length plan.order → r * length plan.order + k < slot_count t
    slot_inside r k round inside =
        let rows : length plan.order * suc r ≤ length plan.order * cycle_rounds i plan = mul-le-mul_left (length plan.order) round in
        omega (arith, slots-are, rows, inside)

    module _ (replay : Trace) (of : replay ≡ replay_of t []) (m : ℕ) (h : m < length i.messages) (k : ℕ) (inside : k < length plan.order) (sender : slice_index plan.order k ≡ source_of i m) where
      slot-is : slot_at replay (round_of plan m * length plan.order + k) ≡ slot_of t [] (round_of plan m * length plan.order + k)
      slot-is =
          let s = round_of plan m * length plan.order + k in
          rw of (get_or-map-range_with_len (slot_of t []) 0 (slot_count t) s s no_slot (slot_inside (round_of plan m) k (round_inside m h) inside) (omega arith))

      first-row : row_at t 0 (round_of plan m * length plan.order + k) ≡ row_of i plan 0 (round_of plan m) k
      first-row = row-is 0 (round_of plan m) k w.limits.nodes_least (round_inside m h) inside

      delivered : (j : ℕ) → j < length (message_at i m).receivers → IsDelivered i plan replay m (node_of i (slice_index (message_at i m).receivers j))
      unfolding slot_of
      delivered j at =
          let s = round_of plan m * length plan.order + k in
          let q = slice_index (message_at i m).receivers j in
          let there : node_of i q < length i.nodes = w.indices (AtProcess q) (receiver_inside i plan w v m j h at) in
          let sends : (row_at t 0 s).sender ≡ source_of i m = rw first-row sender in
          let other : node_of i q ≢ (row_at t 0 s).sender = λ same. w.away m h j 0 at (same ∙ sends) in
          let row = row-is (node_of i q) (round_of plan m) k there (round_inside m h) inside in
          let one = shown m (node_of i q) j h at refl in
          let entry = entry_of i plan (source_of i m) (round_of plan m) one.channel m in
          let has : Contains (row_at t (node_of i q) s).messages entry = rw (row, sender) one.listed in
          let rows : length t.rows ≡ length i.nodes = tables-length i t are_tables in
          let inside_cycle = slot_inside (round_of plan m) k (round_inside m h) inside in
          let told = all_arrive i t [] replay w are_tables of refl s (node_of i q) inside_cycle (omega (arith, there, rows)) other in
          record {
            slot = s;
            within = omega (arith, inside_cycle, ap (λ (r : Trace). length r.slots) of, length-map-range_with_len (slot_of t []) 0 (slot_count t));
            round = rw (slot-is, first-row) refl;
            sender = rw slot-is sends;
            told = All-contains (λ (e : Entry). Contains (slot_at replay s).events (Deliver e.message (node_of i q))) (row_at t (node_of i q) s).messages entry told has;
          }

-- so it is of the tables of each valid plan
pub each_message_arrives : (i : Instance) (plan : Plan) (t : Medl) (losses : List Loss) (replay : Trace) → IsInstance i → IsValid i plan → t ≡ medl_of i plan → replay ≡ replay_of t losses → losses ≡ [] → EachMessageArrives i plan replay
each_message_arrives i plan t losses replay w v is of none = λ m h j d at.
    let source = w.indices (AtProcess (message_at i m).sender) (sender_inside i plan w v m h) in
    let place = every_node (length i.nodes) plan.order (source_of i m) v.order source in
    let sender : slice_index plan.order place.0 ≡ source_of i m = sym (get_or_default_zero plan.order place.0 (source_of i m) place.1) ∙ place.2 in
    let whole : replay ≡ replay_of t [] = rw none at of in
    let is_there : slice_index_or (message_at i m).receivers j d ≡ slice_index (message_at i m).receivers j = get_or_default_zero (message_at i m).receivers j d at in
    rw is_there (delivered i plan w v t is replay whole m h place.0 place.1 sender j at)
