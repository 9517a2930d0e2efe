-- A valid plan of the instance of one cycle repeats rightly for ever.
use Rattle.std.proofs.Common.{◌≡◌, ◌≢◌, ◌∙◌, ℕ, zero, suc, ◌+◌, ◌-◌, ◌*◌, ◌/◌, ◌<◌, ◌≤◌, ◌⊎◌, ◌==◌, ◌&&◌, Bool, true, false, if◌then◌else◌, length, slice_index, All, Contains, arith, inl, inr, refl, sym, ap, eq-eqb}
use Rattle.std.proofs.Math.Nat.{div-mul-le_self, mul-le-mul_left}
use Rattle.std.proofs.lemmas.Bool.{cases_eq, cases_order}
use Rattle.std.proofs.lemmas.Bool.Decides.{eqb_tells}
use Rattle.std.proofs.lemmas.List.{get_or_default}
use Rattle.ttp_model.specs.declared.error.Place.TheVariants as spot
use Rattle.ttp_model.specs.declared.plan.Plan.{Plan}
use Rattle.ttp_model.specs.Instance as instance
use Rattle.ttp_model.specs.Rules.{IsInstance}
use Rattle.ttp_model.specs.Plans as plans
use Rattle.ttp_model.specs.Plans.{IsValid, bytes_in, bytes_on, channel_of, end_of, is_on, load_on, start_of}
use Rattle.ttp_model.specs.Slots.{duration, round_length, slot_end, slot_start}
use Rattle.ttp_model.specs.Totals.{total}
use Rattle.ttp_model.proofs.Times.{round_length-positive}
use Rattle.ttp_model.proofs.Totals.{total_le, total_none}
use Rattle.ttp_model.proofs.PlanNumbers.{some_caps}
use Rattle.ttp_model.proofs.ValidPlans.{frames_fit_lem, two_apart}
use Rattle.rates_model.specs.declared.error.RatesPlace.TheVariants.{AtChain, AtLink}
use Rattle.rates_model.specs.Rates.{Rates, chain_at, link_at, message_at, node_of, period_of, process_at}
use Rattle.rates_model.specs.Cycles.{cycle, horizon_of, jobs_of, rounds_in}
use Rattle.rates_model.specs.Reads.{last_begun}
use Rattle.rates_model.specs.Ages.{last_of}
use Rattle.rates_model.specs.Rules.{IsRates}
use Rattle.endless_schedules.specs.Stores.{first_store, job_index}
use Rattle.endless_schedules.specs.Unrolled.{readers, unrolled}
use Rattle.rates_model.proofs.Periods.{jobs_whole}
use Rattle.endless_schedules.specs.Runs.{IsRun, Job, Run, Store, ends_at, home_of, place_of, starts_at, ticks_of}
use Rattle.endless_schedules.specs.Sent.{bus_of, cycle_bytes, frame_bytes, job_bytes, opens_at, sender_jobs, sender_node, sent_channel, sent_from, sent_place, sent_round, sent_until}
use Rattle.endless_schedules.specs.Endless.{AreAllReady, AreAllStored, AreApartForEver, AreInTime, AreReleased, AreSentWithinRounds, AreWithinRounds, AreYoung, HaveAllArrived, HoldAllFrames, IsEndless, IsFormed, KeepAllLinks, ReadsIn, Receives}
use Rattle.endless_schedules.proofs.Chains.{last_is, young_for_ever}
use Rattle.endless_schedules.proofs.KeptDeadlines.{EndsYoung, in_time_tells}
use Rattle.endless_schedules.proofs.Frames.{by_jobs, of_job, one_term}
use Rattle.endless_schedules.proofs.LinkPlaces.{after_is, before_is, link_inside, many}
use Rattle.endless_schedules.proofs.ReadJobs.{read_tells}
use Rattle.endless_schedules.proofs.Readers.{reader_there, store_reads}
use Rattle.endless_schedules.proofs.Rounds.{earlier_cycle, fewer_rounds, round_is, same_begin}
use Rattle.endless_schedules.proofs.RunPlaces.{home_is, one_run, place_inside, released_from, to_end_by}
use Rattle.endless_schedules.proofs.SentPlaces.{IsSent, bytes_are, receivers_are, sender_is, sent_inside}
use Rattle.endless_schedules.proofs.Shared.{horizon_within, is_sent, received, receiver_is_there, run_end, sender_there, short_delay, some_cycle, source_is}

-- of a link with a delay: what a job ends by is before its reader may start
before_reader : (n tp tq j k ends deadline : ℕ) → ends ≤ k * tp + deadline → deadline ≤ tp → k + 1 ≡ j * tq / tp → ends ≤ j * tq
before_reader n tp tq j k ends deadline by own next =
    let begun = div-mul-le_self (j * tq) tp in
    let moved : (k + 1) * tp ≡ j * tq / tp * tp = ap (λ x. x * tp) next in
    omega (arith, by, own, begun, moved)

if_none : (b : Bool) (x : ℕ) → x ≡ 0 → (if b then x else 0) ≡ 0
if_none true x none = none
if_none false x none = refl

if_le : (b : Bool) (x y : ℕ) → x ≤ y → (if b then x else 0) ≤ (if b then y else 0)
if_le true x y le = le
if_le false x y le = omega arith

module _ (rho : Rates) (plan : Plan) (w : IsRates rho) (i : IsInstance (unrolled rho)) (v : IsValid (unrolled rho) plan) where
  -- the plan's own start and end of a run
  abbrev start : Run → ℕ
  start run = slice_index plan.starts (place_of rho run)

  abbrev ends : Run → ℕ
  ends run = start run + ticks_of rho run

  in_cycle : (run : Run) → IsRun rho run → ends run ≤ horizon_of rho
  in_cycle run there = omega (arith, (v.in_time (place_of rho run) (place_inside rho run there)).1, run_end rho plan w i run there)

  job_in_time : (p k : ℕ) → IsRun rho (Job p k)
      → (ends (Job p k) ≤ horizon_of rho) × (ends (Job p k) ≤ k * period_of rho p + (process_at rho p).deadline) × EndsYoung rho p k (ends (Job p k))
  job_in_time p k there = in_time_tells rho p k (ends (Job p k))
      (omega (arith, (v.in_time (place_of rho (Job p k)) (place_inside rho (Job p k) there)).0, run_end rho plan w i (Job p k) there, to_end_by rho p k there))

  released : AreReleased rho plan
  released c p k there = omega (arith, v.released (place_of rho (Job p k)) (place_inside rho (Job p k) there), released_from rho p k there)

  in_time : AreInTime rho plan
  in_time c p k there = omega (arith, (job_in_time p k there).1)

  within : AreWithinRounds rho plan
  within c run there = omega (arith, in_cycle run there)

  apart : AreApartForEver rho plan
  apart c d one other first second home differ = elim (cases_order c d) [
    | inl is ↦
        let moved = ap (λ x. x * cycle rho) is in
        elim (cases_eq (place_of rho one) (place_of rho other)) [
          | inl same ↦ absurd (differ (is, one_run rho one other first second same))
          | inr two ↦
              let node = home_is rho one first ∙ (home ∙ sym (home_is rho other second)) in
              elim (two_apart (unrolled rho) plan (place_of rho one) (place_of rho other) v (place_inside rho one first) (place_inside rho other second) two node) [
                | inl before ↦ inl (omega (arith, before, moved, run_end rho plan w i one first))
                | inr behind ↦ inr (omega (arith, behind, moved, run_end rho plan w i other second))
              ]
        ]
    | inr away ↦ elim away [
      | inl earlier ↦ inl (omega (arith, earlier_cycle (cycle rho) c d (ends one) (omega (arith, in_cycle one first, horizon_within rho plan w i)) earlier))
      | inr later ↦ inr (omega (arith, earlier_cycle (cycle rho) d c (ends other) (omega (arith, in_cycle other second, horizon_within rho plan w i)) later))
    ]
  ]

  module _ (l : ℕ) (there : l < length rho.links) where
    abbrev p : ℕ
    p = (link_at rho l).before

    abbrev q : ℕ
    q = (link_at rho l).after

    hp : p < length rho.processes
    hp = (w.indices (AtLink l) there).0

    hq : q < length rho.processes
    hq = (w.indices (AtLink l) there).1

    at_once : (j : ℕ) → (link_at rho l).delay ≡ 0 → j < jobs_of rho q → end_of (unrolled rho) plan (job_index rho p (last_begun rho p q j)) ≤ start_of plan (job_index rho q j)
    at_once j none inside =
        omega (
          arith,
          v.links (total (many rho) l + j) (link_inside rho l j there none inside),
          ap (end_of (unrolled rho) plan) (before_is rho l j there none inside),
          ap (start_of plan) (after_is rho l j there none inside),
        )

    link_kept : (c j d k : ℕ) → ReadsIn rho p q (link_at rho l).delay c j d k → ends_at rho plan d (Job p k) ≤ starts_at rho plan c (Job q j)
    link_kept c j d k r =
        let short : (link_at rho l).delay ≤ 1 = w.ranges (AtLink l) there in
        let reads = job_in_time p k (hp, r.read) in
        let own = (w.rooms p hp).within in
        let starts = released 0 q j (hq, r.reader) in
        elim (read_tells rho w p q hp hq (link_at rho l).delay short c j d k r) [
          | inl now ↦
              let moved = ap (λ x. x * cycle rho) now.0 in
              elim (cases_eq (link_at rho l).delay 0) [
                | inl none ↦
                    let is : k ≡ last_begun rho p q j = omega (arith, now.1, none) in
                    let kept : end_of (unrolled rho) plan (job_index rho p k) ≤ start_of plan (job_index rho q j) = rw is (at_once j none r.reader) in
                    omega (arith, kept, moved, run_end rho plan w i (Job p k) (hp, r.read))
                | inr one ↦
                    let next : k + 1 ≡ last_begun rho p q j = omega (arith, now.1, one, short) in
                    omega (arith, before_reader 0 (period_of rho p) (period_of rho q) j k (ends (Job p k)) (process_at rho p).deadline reads.1 own next, starts, moved)
              ]
          | inr later ↦
              let last : (k + 1) * period_of rho p ≡ jobs_of rho p * period_of rho p = ap (λ x. x * period_of rho p) later.2 in
              let moved : suc d * cycle rho ≡ c * cycle rho = ap (λ x. x * cycle rho) later.0 in
              omega (arith, reads.1, own, last, jobs_whole rho w p hp, moved)
        ]

  links : KeepAllLinks rho plan
  links l c j d k there r = link_kept l there c j d k r

  ready : AreAllReady rho plan
  ready m q c j d k r =
      let sent = is_sent rho w m q c j d k r in
      let x = sent_place rho m k in
      let s = (message_at rho m).sender in
      let is : plans.sent_from (unrolled rho) plan x ≡ slot_start (bus_of rho) plan.order plan.caps (sender_node rho m) (sent_round rho plan m k) =
      ap (λ n. slot_start (bus_of rho) plan.order plan.caps n (sent_round rho plan m k)) (source_is rho plan w i m k sent) in
      let ended : end_of (unrolled rho) plan (instance.message_at (unrolled rho) x).sender ≡ end_of (unrolled rho) plan (job_index rho s k) = ap (end_of (unrolled rho) plan) (sender_is rho m k sent) in
      omega (arith, v.ready x (sent_inside rho m k sent), is, ended, run_end rho plan w i (Job s k) (sender_there rho w m r.there, r.read.read))

  -- each that reads has the message when it starts
  has_arrived : (m k z : ℕ) → IsSent rho m k → Contains (readers rho m k) z
      → slot_end (bus_of rho) plan.order plan.caps (sender_node rho m) (sent_round rho plan m k) + rho.cluster.copy_in ≤ slice_index plan.starts z
  has_arrived m k z sent has =
      let x = sent_place rho m k in
      let is : plans.sent_until (unrolled rho) plan x ≡ slot_end (bus_of rho) plan.order plan.caps (sender_node rho m) (sent_round rho plan m k) =
      ap (λ n. slot_end (bus_of rho) plan.order plan.caps n (sent_round rho plan m k)) (source_is rho plan w i m k sent) in
      let all = receivers_are rho m k sent in
      let inside : has.0 < length (instance.message_at (unrolled rho) x).receivers = omega (arith, has.1, ap length all) in
      let one : slice_index (instance.message_at (unrolled rho) x).receivers has.0 ≡ z = ap (λ ys. slice_index ys has.0) all ∙ (get_or_default (readers rho m k) has.0 0 z has.1 ∙ has.2) in
      omega (arith, v.arrived x (sent_inside rho m k sent) has.0 inside, is, ap (start_of plan) one)

  arrived : HaveAllArrived rho plan
  arrived m q c j k r =
      let sent = is_sent rho w m q c j c k r in
      elim (received rho w m q c j c k r) [
        | inl now ↦ omega (arith, has_arrived m k (job_index rho q j) sent (reader_there rho m k r.read.read (short_delay rho w m r.there) q j r.receiver r.read.reader now.1))
        | inr later ↦ absurd (omega (arith, later.0))
      ]

  stored : AreAllStored rho plan
  stored m q c j d k place r differ there home =
      let sent = is_sent rho w m q c j d k r in
      elim (received rho w m q c j d k r) [
        | inl now ↦ absurd (differ (sym now.0))
        | inr later ↦ omega (arith, has_arrived m k (first_store rho m + place) sent (store_reads rho m k r.read.read (short_delay rho w m r.there) place later.2 there.1))
      ]

  some_round : 0 < round_length (bus_of rho) plan.caps
  some_round = round_length-positive (bus_of rho) plan.caps (i.ranges spot.AtCluster) (some_caps (unrolled rho) plan i v)

  whole_rounds : rounds_in rho * round_length (bus_of rho) plan.caps ≡ horizon_of rho
  whole_rounds = ap (λ x. rounds_in rho * x) (round_is rho plan v.lengths v.capacities)

  round_within : (m k : ℕ) → IsSent rho m k → sent_round rho plan m k < rounds_in rho
  round_within m k sent =
      let x = sent_place rho m k in
      let first = slice_index (readers rho m k) 0 in
      let has : Contains (readers rho m k) first = (0, sent.2, get_or_default (readers rho m k) 0 first 0 sent.2) in
      let arrives = has_arrived m k first sent has in
      let all : All (λ p. p < length (unrolled rho).processes) (readers rho m k) = rw (receivers_are rho m k sent) at (i.indices (spot.AtMessage x) (sent_inside rho m k sent)).1 in
      let there : first < length (unrolled rho).processes = all 0 0 sent.2 in
      let ended = (v.in_time first there).1 in
      fewer_rounds (sent_round rho plan m k) (rounds_in rho) (round_length (bus_of rho) plan.caps)
      (omega (arith, arrives, ended, whole_rounds, (i.ranges spot.AtCluster).head_least))

  sent : AreSentWithinRounds rho plan
  sent m q c j d k r = round_within m k (is_sent rho w m q c j d k r)

  young : AreYoung rho plan
  young x c j k there inside carries =
      let chain = chain_at rho x in
      let last = last_of chain in
      let through = (w.throughs x there).least in
      let hl : last < length rho.processes = (w.indices (AtChain x) there) (length chain.through - 1) 0 (omega (arith, through)) in
      let ticks = (i.ranges (spot.AtProcess (place_of rho (Job last j)))) (place_inside rho (Job last j) (hl, inside)) in
      let runs : 1 ≤ ends (Job last j) = omega (arith, ticks.wcet_least, run_end rho plan w i (Job last j) (hl, inside)) in
      omega (
        arith,
        young_for_ever rho w chain.through last chain.age (ends (Job last j)) (last_is chain.through (omega (arith, through))) (w.indices (AtChain x) there)
            (some_cycle rho plan w i) runs c j k ((job_in_time last j (hl, inside)).2 x there refl) carries,
      )

  module _ (c n r channel : ℕ) (hn : n < length rho.nodes) (hr : r < rounds_in rho) (hc : channel < rho.cluster.channels) where
    abbrev tick : ℕ
    tick = opens_at rho plan c n r

    -- the bytes of the instance's message at a place, in that frame
    abbrev of_place : ℕ → ℕ
    of_place = bytes_on (unrolled rho) plan n r channel

    -- a message that is sent then is of that cycle and round
    sent_then : (d m k : ℕ) → IsSent rho m k → sender_node rho m ≡ n → sent_from rho plan d m k ≡ tick → (d ≡ c) × (sent_round rho plan m k ≡ r)
    sent_then d m k sent home same =
        let here : sent_from rho plan d m k ≡ opens_at rho plan d n (sent_round rho plan m k) = ap (λ x. opens_at rho plan d x (sent_round rho plan m k)) home in
        same_begin (cycle rho) (round_length (bus_of rho) plan.caps) (rounds_in rho) c d r (sent_round rho plan m k) some_round
        (omega (arith, whole_rounds, horizon_within rho plan w i)) hr (round_within m k sent) (omega (arith, here, same))

    -- what is counted at a place
    counted : (d m k : ℕ) → ℕ
    counted d m k = if sender_node rho m == n && sent_from rho plan d m k == tick then (message_at rho m).bytes else 0

    counted_none : (d m k : ℕ) → IsSent rho m k → d ≢ c → counted d m k ≡ 0
    unfolding counted
    counted_none d m k sent other = elim (eqb_tells (sender_node rho m) n) [
      | inl here ↦ elim (eqb_tells (sent_from rho plan d m k) tick) [
        | inl now ↦ absurd (other (sent_then d m k sent here.1 now.1).0)
        | inr not_now ↦ rw (here.0, not_now.0) refl
      ]
      | inr away ↦ rw away.0 refl
    ]

    counted_once : (m k : ℕ) → IsSent rho m k → counted c m k ≤ bytes_in (unrolled rho) plan n r (sent_place rho m k)
    unfolding counted
    counted_once m k sent = elim (eqb_tells (sender_node rho m) n) [
      | inl here ↦ elim (eqb_tells (sent_from rho plan c m k) tick) [
        | inl now ↦
            let source = eq-eqb (instance.source_of (unrolled rho) (sent_place rho m k)) n (source_is rho plan w i m k sent ∙ here.1) in
            let round = eq-eqb (sent_round rho plan m k) r (sent_then c m k sent here.1 now.1).1 in
            rw (here.0, now.0, source, round) (omega (arith, bytes_are rho m k sent))
        | inr not_now ↦ rw (here.0, not_now.0) (omega arith)
      ]
      | inr away ↦ rw away.0 (omega arith)
    ]

    job_none : (d m k : ℕ) → m < length rho.messages → k < sender_jobs rho m → d ≢ c → job_bytes rho plan n tick channel d m k ≡ 0
    unfolding counted
    job_none d m k hm hk other = elim (eqb_tells (length (readers rho m k)) 0) [
      | inl unread ↦ rw unread.0 refl
      | inr read ↦
          let none = counted_none d m k (hm, hk, omega (arith, read.1)) other in
          rw read.0 (if_none (is_on channel (sent_channel rho plan m k)) _ none)
    ]

    job_once : (m k : ℕ) → m < length rho.messages → k < sender_jobs rho m → job_bytes rho plan n tick channel c m k ≤ of_job rho of_place m k
    unfolding counted
    job_once m k hm hk = elim (eqb_tells (length (readers rho m k)) 0) [
      | inl unread ↦ rw unread.0 (omega arith)
      | inr read ↦
          let less = counted_once m k (hm, hk, omega (arith, read.1)) in
          rw read.0 (if_le (is_on channel (sent_channel rho plan m k)) _ _ less)
    ]

    cycle_none : (d : ℕ) → d ≢ c → cycle_bytes rho plan n tick channel d ≡ 0
    cycle_none d other =
        total_none (λ m. total (job_bytes rho plan n tick channel d m) (sender_jobs rho m)) (length rho.messages)
        (λ m hm. total_none (job_bytes rho plan n tick channel d m) (sender_jobs rho m) (λ k hk. job_none d m k hm hk other))

    cycle-le : cycle_bytes rho plan n tick channel c ≤ load_on (unrolled rho) plan n r channel
    cycle-le =
        let each = total_le (λ m. total (job_bytes rho plan n tick channel c m) (sender_jobs rho m)) (λ m. total (of_job rho of_place m) (sender_jobs rho m)) (length rho.messages)
        (λ m hm. total_le (job_bytes rho plan n tick channel c m) (of_job rho of_place m) (sender_jobs rho m) (λ k hk. job_once m k hm hk)) in
        omega (arith, each, by_jobs rho of_place)

    frame_holds : (cycles : ℕ) → frame_bytes rho plan n tick channel cycles ≤ slice_index plan.caps n
    frame_holds cycles =
        let one = one_term (cycle_bytes rho plan n tick channel) cycles c cycle_none in
        omega (arith, one, cycle-le, frames_fit_lem (unrolled rho) plan n r channel v hc)

  frames : HoldAllFrames rho plan
  frames c n r channel cycles hn hr hc = frame_holds c n r channel hn hr hc cycles

  pub repeats_rightly : IsFormed rho plan × IsEndless rho plan
  repeats_rightly = (
    record { lengths = v.lengths; order = v.order; capacities = v.capacities; channels = v.on_own },
    record {
      released = released;
      in_time = in_time;
      within = within;
      apart = apart;
      links = links;
      ready = ready;
      arrived = arrived;
      stored = stored;
      sent = sent;
      frames = frames;
      young = young;
    },
  )
