-- A plan that repeats rightly for ever is valid for the instance of one cycle.
use Rattle.std.proofs.Common.{◌≡◌, ◌≢◌, ◌∙◌, ℕ, zero, suc, ◌+◌, ◌*◌, ◌/◌, ◌<◌, ◌≤◌, ◌⊎◌, ◌==◌, ◌&&◌, Bool, true, false, IsTrue, if◌then◌else◌, length, slice_index, All, Contains, arith, inl, inr, refl, sym, ap, eq-eqb, subst}
use Rattle.std.proofs.lemmas.Bool.{cases_eq}
use Rattle.std.proofs.lemmas.Bool.Decides.{eqb_tells}
use Rattle.std.proofs.lemmas.List.{length-map}
use Rattle.std.proofs.lemmas.Nat.{div_below}
use Rattle.ttp_model.specs.declared.error.Place.TheVariants as spot
use Rattle.ttp_model.specs.declared.plan.Plan.{Plan}
use Rattle.ttp_model.specs.Instance as instance
use Rattle.ttp_model.specs.Lists.{EachBelow}
use Rattle.ttp_model.specs.Rules.{IsInstance}
use Rattle.ttp_model.specs.Plans as plans
use Rattle.ttp_model.specs.Plans.{AreApart, EndsBefore, EndsInTime, FitsOn, HasArrivedAt, IsReady, IsReleased, IsValid, KeepsLink, bytes_in, bytes_on, channel_of, end_of, is_on, load_on, start_of}
use Rattle.ttp_model.specs.Slots.{slot_end, slot_start}
use Rattle.ttp_model.specs.Totals.{total}
use Rattle.ttp_model.proofs.Totals.{total_le, total_more}
use Rattle.rates_model.specs.declared.error.RatesPlace.TheVariants.{AtChain, AtLink, AtProcess}
use Rattle.rates_model.specs.Rates.{Rates, chain_at, link_at, message_at, node_of, period_of, process_at}
use Rattle.rates_model.specs.Cycles.{cycle, horizon_of, jobs_of, rounds_in}
use Rattle.rates_model.specs.Reads.{last_begun}
use Rattle.rates_model.specs.Ages.{age_deadline, last_of}
use Rattle.rates_model.specs.Rules.{IsRates}
use Rattle.endless_schedules.specs.Stores.{first_store, job_index, storing_nodes}
use Rattle.endless_schedules.specs.Unrolled.{readers, unrolled, unrolled_messages}
use Rattle.endless_schedules.specs.Runs.{IsRun, Job, Run, Store, ends_at, home_of, place_of, starts_at, ticks_of}
use Rattle.endless_schedules.specs.Sent.{bus_of, cycle_bytes, frame_bytes, job_bytes, opens_at, sender_jobs, sender_node, sent_channel, sent_from, sent_place, sent_round, sent_until}
use Rattle.endless_schedules.specs.Endless.{IsEndless, IsFormed, ReadsIn, Receives}
use Rattle.endless_schedules.proofs.Chains.{last_is, some_jobs, young_in_one}
use Rattle.endless_schedules.proofs.KeptDeadlines.{EndsYoung, in_time_from}
use Rattle.endless_schedules.proofs.Frames.{by_jobs, of_job}
use Rattle.endless_schedules.proofs.LinkPlaces.{after_is, before_is, link_of_place, many}
use Rattle.endless_schedules.proofs.ReadJobs.{begun_below, reads_before, reads_same, some_period}
use Rattle.endless_schedules.proofs.Readers.{all_readers}
use Rattle.endless_schedules.proofs.RunPlaces.{home_is, place_inside, released_from, run_at, stored_from, to_end_by, to_store_by}
use Rattle.endless_schedules.proofs.SentPlaces.{IsSent, bytes_are, receivers_are, sender_is, sent_from_place}
use Rattle.endless_schedules.proofs.Shared.{receiver_is_there, run_end, sender_there, short_delay, some_cycle, source_is}
use Rattle.endless_schedules.proofs.StoringNodes.{stored_for}

zero_divided : (x k : ℕ) → 0 < k → x ≡ 0 → x / k ≡ 0
zero_divided x k some none =
    let below : x / k < 1 = div_below x k 1 some (omega (arith, some, none)) in
    omega (arith, below)

if_le : (b : Bool) (x y : ℕ) → x ≤ y → (if b then x else 0) ≤ (if b then y else 0)
if_le true x y le = le
if_le false x y le = omega arith

module _ (rho : Rates) (plan : Plan) (w : IsRates rho) (i : IsInstance (unrolled rho)) (formed : IsFormed rho plan) (e : IsEndless rho plan) where
  -- the plan's own start and end of a run
  abbrev start : Run → ℕ
  start run = slice_index plan.starts (place_of rho run)

  abbrev ends : Run → ℕ
  ends run = start run + ticks_of rho run

  released_at : (run : Run) → IsRun rho run → IsReleased (unrolled rho) plan (place_of rho run)
  released_at (Job p k) there = omega (arith, e.released 0 p k there, released_from rho p k there)
  released_at (Store m place) there = omega (arith, stored_from rho m place there)

  young_at : (p k : ℕ) → IsRun rho (Job p k) → 1 ≤ ends (Job p k) → EndsYoung rho p k (ends (Job p k))
  young_at p k there runs x inside last =
      let chain = chain_at rho x in
      let through = (w.throughs x inside).least in
      let some : 0 < length chain.through = omega (arith, through) in
      let here : k < jobs_of rho (last_of chain) = rw last there.1 in
      let ended : slice_index plan.starts (job_index rho (last_of chain) k) + (process_at rho (last_of chain)).wcet ≡ ends (Job p k) = ap (λ (q : ℕ). slice_index plan.starts (job_index rho q k) + (process_at rho q).wcet) last in
      let all = young_in_one rho w chain.through (last_of chain) chain.age (ends (Job (last_of chain) k)) (last_is chain.through some) (w.indices (AtChain x) inside)
      (some_cycle rho plan w i) (omega (arith, runs, ended)) k (λ c j carries. omega (arith, e.young x c k j inside here carries)) in
      omega (arith, all, ended)

  in_time_at : (run : Run) → IsRun rho run → EndsInTime (unrolled rho) plan (place_of rho run)
  in_time_at (Job p k) there =
      let ended = run_end rho plan w i (Job p k) there in
      let runs : 1 ≤ ends (Job p k) = omega (arith, ended, (i.ranges (spot.AtProcess (place_of rho (Job p k))) (place_inside rho (Job p k) there)).wcet_least) in
      let in_rounds : ends (Job p k) ≤ horizon_of rho = omega (arith, e.within 0 (Job p k) there) in
      let by = in_time_from rho p k (ends (Job p k)) in_rounds (omega (arith, e.in_time 0 p k there)) (young_at p k there runs) in
      (omega (arith, ended, by, to_end_by rho p k there), omega (arith, ended, in_rounds))
  in_time_at (Store m place) there =
      let ended = run_end rho plan w i (Store m place) there in
      let in_rounds : ends (Store m place) ≤ horizon_of rho = omega (arith, e.within 0 (Store m place) there) in
      (omega (arith, ended, in_rounds, to_store_by rho m place there), omega (arith, ended, in_rounds))

  apart_at : (x y : ℕ) → x < length (unrolled rho).processes → y < length (unrolled rho).processes → x ≢ y → AreApart (unrolled rho) plan x y
  apart_at x y hx hy differ one_node =
      let one = run_at rho x hx in
      let other = run_at rho y hy in
      let home : home_of rho one.0 ≡ home_of rho other.0 =
      sym (home_is rho one.0 one.1) ∙ (ap (instance.node_of (unrolled rho)) one.2 ∙ (one_node ∙ (sym (ap (instance.node_of (unrolled rho)) other.2) ∙ home_is rho other.0 other.1))) in
      let ended = run_end rho plan w i one.0 one.1 in
      let other_ended = run_end rho plan w i other.0 other.1 in
      let moved = ap (end_of (unrolled rho) plan) one.2 in
      let other_moved = ap (end_of (unrolled rho) plan) other.2 in
      elim (e.apart 0 0 one.0 other.0 one.1 other.1 home (λ same. differ (sym one.2 ∙ (ap (place_of rho) same.1 ∙ other.2)))) [
        | inl first ↦ inl (omega (arith, first, ended, moved, ap (start_of plan) other.2))
        | inr second ↦ inr (omega (arith, second, other_ended, other_moved, ap (start_of plan) one.2))
      ]

  link_at_place : (l j : ℕ) → l < length rho.links → (link_at rho l).delay ≡ 0 → j < jobs_of rho (link_at rho l).after → KeepsLink (unrolled rho) plan (total (many rho) l + j)
  link_at_place l j there none inside =
      let p = (link_at rho l).before in
      let q = (link_at rho l).after in
      let hp = (w.indices (AtLink l) there).0 in
      let hq = (w.indices (AtLink l) there).1 in
      let short : (link_at rho l).delay ≤ 1 = w.ranges (AtLink l) there in
      let k = last_begun rho p q j in
      let hk = begun_below rho w p q hp hq j inside in
      let reads = reads_same rho w p q hp hq (link_at rho l).delay short 0 j k inside (omega (arith, none)) in
      omega (
        arith,
        e.links l 0 j 0 k there reads,
        run_end rho plan w i (Job p k) (hp, hk),
        ap (end_of (unrolled rho) plan) (before_is rho l j there none inside),
        ap (start_of plan) (after_is rho l j there none inside),
      )

  module _ (m k : ℕ) (sent : IsSent rho m k) where
    abbrev s : ℕ
    s = (message_at rho m).sender

    short : (message_at rho m).delay ≤ 1
    short = short_delay rho w m sent.0

    hs : s < length rho.processes
    hs = sender_there rho w m sent.0

    abbrev x : ℕ
    x = sent_place rho m k

    -- a job that reads it in its own cycle; and one of the next cycle, for each store
    now : (q j : ℕ) → Contains (message_at rho m).receivers q → j < jobs_of rho q → k + (message_at rho m).delay ≡ last_begun rho s q j → Receives rho m q 0 j 0 k
    now q j receives inside reads = record {
      there = sent.0;
      receiver = receives;
      read = reads_same rho w s q hs (receiver_is_there rho w m sent.0 q receives) (message_at rho m).delay short 0 j k inside reads;
    }

    later : (place : ℕ) → k + 1 ≡ jobs_of rho s → place < length (storing_nodes rho (message_at rho m))
        → (q : ℕ) × Receives rho m q 1 0 0 k × (home_of rho (Store m place) ≡ node_of rho q)
    later place last inside =
        let stored = stored_for rho (message_at rho m) place short inside in
        let q = stored.1.0 in
        let hq = receiver_is_there rho w m sent.0 q stored.1.1 in
        let none : last_begun rho s q 0 ≡ 0 = nothing_begun (period_of rho s) (period_of rho q) (some_period rho w s hs) in (
          q,
          record {
            there = sent.0;
            receiver = stored.1.1;
            read = reads_before rho w s q hs hq (message_at rho m).delay short 0 0 k (some_jobs rho w (some_cycle rho plan w i) q hq) stored.0 none last;
          },
          sym stored.1.2,
        )
      where
        nothing_begun : (tp tq : ℕ) → 0 < tp → 0 * tq / tp ≡ 0
        nothing_begun tp tq some = zero_divided (0 * tq) tp some (omega arith)

    -- what holds of each reading holds of it
    of_reading : (P : Type 0) → ((q c j : ℕ) → Receives rho m q c j 0 k → P) → P
    of_reading P each =
        all_readers rho m k sent.1 short (λ _. P) (λ q j receives inside reads. each q 0 j (now q j receives inside reads))
        (λ place last inside. (let one = later place last inside in each one.0 1 0 one.1)) 0 0 sent.2

    ready_at : IsReady (unrolled rho) plan x
    ready_at =
        let is : plans.sent_from (unrolled rho) plan x ≡ slot_start (bus_of rho) plan.order plan.caps (sender_node rho m) (sent_round rho plan m k) =
        ap (λ n. slot_start (bus_of rho) plan.order plan.caps n (sent_round rho plan m k)) (source_is rho plan w i m k sent) in
        let ended : end_of (unrolled rho) plan (instance.message_at (unrolled rho) x).sender ≡ end_of (unrolled rho) plan (job_index rho s k) = ap (end_of (unrolled rho) plan) (sender_is rho m k sent) in
        let run = run_end rho plan w i (Job s k) (hs, sent.1) in
        of_reading (IsReady (unrolled rho) plan x) (λ q c j r. omega (arith, e.ready m q c j 0 k r, is, ended, run))

    -- the message has arrived by a tick
    abbrev ArrivesBy : ℕ → Type 0
    ArrivesBy tick = slot_end (bus_of rho) plan.order plan.caps (sender_node rho m) (sent_round rho plan m k) + rho.cluster.copy_in ≤ tick

    all_arrive : All (λ z. ArrivesBy (slice_index plan.starts z)) (readers rho m k)
    all_arrive =
        all_readers rho m k sent.1 short (λ z. ArrivesBy (slice_index plan.starts z))
        (λ q j receives inside reads. omega (arith, e.arrived m q 0 j k (now q j receives inside reads)))
        (λ place last inside. (let one = later place last inside in omega (arith, e.stored m one.0 1 0 0 k place one.1 (λ same. omega (arith, same)) (sent.0, inside) one.2)))

    arrived_at : (y : ℕ) → y < length (instance.message_at (unrolled rho) x).receivers → HasArrivedAt (unrolled rho) plan x y
    arrived_at y inside =
        let all = receivers_are rho m k sent in
        let there : y < length (readers rho m k) = omega (arith, inside, ap length all) in
        let is : plans.sent_until (unrolled rho) plan x ≡ slot_end (bus_of rho) plan.order plan.caps (sender_node rho m) (sent_round rho plan m k) =
        ap (λ n. slot_end (bus_of rho) plan.order plan.caps n (sent_round rho plan m k)) (source_is rho plan w i m k sent) in
        omega (arith, all_arrive y 0 there, is, ap (λ ys. start_of plan (slice_index ys y)) all)

    round_at : sent_round rho plan m k < rounds_in rho
    round_at = of_reading (sent_round rho plan m k < rounds_in rho) (λ q c j r. e.sent m q c j 0 k r)

  module _ (n r channel : ℕ) where
    -- the bytes of the instance's message at a place, in that frame
    abbrev of_place : ℕ → ℕ
    of_place = bytes_on (unrolled rho) plan n r channel

    counted_here : (m k : ℕ) → IsSent rho m k → bytes_in (unrolled rho) plan n r (sent_place rho m k)
        ≤ (if sender_node rho m == n && sent_from rho plan 0 m k == opens_at rho plan 0 n r then (message_at rho m).bytes else 0)
    counted_here m k sent = elim (eqb_tells (instance.source_of (unrolled rho) (sent_place rho m k)) n) [
      | inl here ↦ elim (eqb_tells (sent_round rho plan m k) r) [
        | inl now ↦
            let home : sender_node rho m ≡ n = sym (source_is rho plan w i m k sent) ∙ here.1 in
            let moved : sent_from rho plan 0 m k ≡ opens_at rho plan 0 n (sent_round rho plan m k) = ap (λ x. opens_at rho plan 0 x (sent_round rho plan m k)) home in
            let tick : sent_from rho plan 0 m k ≡ opens_at rho plan 0 n r = moved ∙ ap (opens_at rho plan 0 n) now.1 in
            rw (here.0, now.0, eq-eqb _ _ home, eq-eqb _ _ tick) (omega (arith, bytes_are rho m k sent))
        | inr not_now ↦ rw (here.0, not_now.0) (omega arith)
      ]
      | inr away ↦ rw away.0 (omega arith)
    ]

    job_here : (m k : ℕ) → m < length rho.messages → k < sender_jobs rho m → of_job rho of_place m k ≤ job_bytes rho plan n (opens_at rho plan 0 n r) channel 0 m k
    job_here m k hm hk = elim (eqb_tells (length (readers rho m k)) 0) [
      | inl unread ↦ rw unread.0 (omega arith)
      | inr read ↦
          let less = counted_here m k (hm, hk, omega (arith, read.1)) in
          rw read.0 (if_le (is_on channel (sent_channel rho plan m k)) _ _ less)
    ]

    load-le : load_on (unrolled rho) plan n r channel ≤ frame_bytes rho plan n (opens_at rho plan 0 n r) channel 1
    load-le =
        let each = total_le (λ m. total (of_job rho of_place m) (sender_jobs rho m)) (λ m. total (job_bytes rho plan n (opens_at rho plan 0 n r) channel 0 m) (sender_jobs rho m)) (length rho.messages)
        (λ m hm. total_le (of_job rho of_place m) (job_bytes rho plan n (opens_at rho plan 0 n r) channel 0 m) (sender_jobs rho m) (λ k hk. job_here m k hm hk)) in
        omega (arith, each, by_jobs rho of_place, total_more (cycle_bytes rho plan n (opens_at rho plan 0 n r) channel) 0)

  fits_at : (m k : ℕ) → IsSent rho m k → (channel : ℕ) → channel < rho.cluster.channels → load_on (unrolled rho) plan (sender_node rho m) (sent_round rho plan m k) channel ≤ slice_index plan.caps (sender_node rho m)
  fits_at m k sent channel hc =
      let n = sender_node rho m in
      let r = sent_round rho plan m k in
      let hn : n < length rho.nodes = w.indices (AtProcess (message_at rho m).sender) (sender_there rho w m sent.0) in
      omega (arith, load-le n r channel, e.frames 0 n r channel 1 hn (round_at m k sent) hc)

  ready : EachBelow (length (unrolled_messages rho)) (IsReady (unrolled rho) plan)
  ready x inside = (let at = sent_from_place rho x inside in subst (IsReady (unrolled rho) plan) at.3 (ready_at at.0 at.1 at.2))

  pub is_valid : IsValid (unrolled rho) plan
  is_valid = record {
    lengths = formed.lengths;
    order = formed.order;
    capacities = formed.capacities;
    released = λ x inside. (let at = run_at rho x inside in subst (IsReleased (unrolled rho) plan) at.2 (released_at at.0 at.1));
    in_time = λ x inside. (let at = run_at rho x inside in subst (EndsInTime (unrolled rho) plan) at.2 (in_time_at at.0 at.1));
    apart = λ x hx y less hy. apart_at x y hx hy (λ same. omega (arith, same, less));
    links = λ x inside. (let at = link_of_place rho x inside in subst (KeepsLink (unrolled rho) plan) at.5 (link_at_place at.0 at.1 at.2 at.3 at.4));
    ready = ready;
    arrived = λ x inside y below. (let at = sent_from_place rho x inside in arrived_there at.0 at.1 at.2 x y at.3 below);
    frames = λ x inside channel hc on. (let at = sent_from_place rho x inside in fits_there at.0 at.1 at.2 x at.3 channel hc);
    on_own = formed.channels;
  }
    where
      arrived_there : (m k : ℕ) → IsSent rho m k → (x y : ℕ) → sent_place rho m k ≡ x → y < length (instance.message_at (unrolled rho) x).receivers → HasArrivedAt (unrolled rho) plan x y
      arrived_there m k sent x y is below = rw is at (arrived_at m k sent y (rw (← is) at below))

      fits_there : (m k : ℕ) → IsSent rho m k → (x : ℕ) → sent_place rho m k ≡ x → (channel : ℕ) → channel < rho.cluster.channels
          → load_on (unrolled rho) plan (instance.source_of (unrolled rho) x) (plans.round_of plan x) channel ≤ slice_index plan.caps (instance.source_of (unrolled rho) x)
      fits_there m k sent x is channel hc = rw (← is, source_is rho plan w i m k sent) (fits_at m k sent channel hc)
