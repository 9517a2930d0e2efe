-- Each clash of a complete choice is closed by its own step, and a plan by a window at each goal up to its delay.
use Rattle.std.proofs.Common.{◌≡◌, ◌≢◌, ℕ, ◌+◌, ◌-◌, ◌*◌, ◌<◌, ◌≤◌, ◌==◌, ◌&&◌, if◌then◌else◌, min, max, List, [], length, slice_index, unwrap_or, Option, None, Some, IsSome, Bool, arith, inl, inr, refl, sym, ap, subst, ◌∙◌, get_or-set_same, mul-le-mul_right}
use Rattle.std.proofs.lemmas.Bool.{cases_lt, cases_eq, eq-eqb, ne_eqb, false≢true}
use Rattle.std.proofs.lemmas.List.{length-map, get_or-map, get_or-replicate}
use Rattle.std.proofs.lemmas.List.Elements.{Contains-get_or}
use Rattle.ttp_model.specs.declared.plan.Plan.{Plan}
use Rattle.ttp_model.specs.declared.error.Place.TheVariants.{AtCluster, AtProcess, AtLink, AtMessage}
use Rattle.ttp_model.specs.declared.step.Step.{Step}
use Rattle.ttp_model.specs.declared.step.Step.TheVariants.{LoSend, HiArrive, XRound, XCycle, XFrames, XChannel, XWindow}
use Rattle.ttp_model.specs.Instance.{Instance, message_at, source_of}
use Rattle.ttp_model.specs.Rules.{IsInstance}
use Rattle.ttp_model.specs.Plans.{start_of, end_of, bytes_in, channel_of, is_on}
use Rattle.ttp_model.specs.Delays.{delay}
use Rattle.ttp_model.specs.Totals.{total}
use Rattle.ttp_model.proofs.Totals.{total_same, total_le}
use Rattle.ttp_model.proofs.Channels.{on_at_most}
use Rattle.ttp_model.proofs.ValidPlans.{greatest_reached}
use Rattle.tt_choice.specs.Choice.{Choice, IsChoice, IsComplete, fixed_channel, least_round}
use Rattle.tt_choice.specs.Extremes.{start_most, end_least, cap_most, dur_most}
use Rattle.sought_plans.specs.Known.{first_facts, top_of}
use Rattle.sought_plans.specs.Conclusions.{SentFrom, SentBefore, sharpened, capped}
use Rattle.sought_plans.specs.Premises.{GoesTo, IsAhead, IsFirstChance, AreChances, least_ready, bytes_within, bytes_copied, bytes_counted, counts_on, is_fixed_on}
use Rattle.sought_plans.proofs.Channels.{total_copied_alone}
use Rattle.tt_infer.proofs.Chances.{concludes_some}
use Rattle.search_trees.proofs.Complete.{start_exact, end_exact, cap_exact, one_round}
use Rattle.earliest_starts.specs.declared.clash.Clash.{Clash}
use Rattle.earliest_starts.specs.declared.clash.Clash.TheVariants.{Cycle, Round, Window, Frame}
use Rattle.earliest_starts.specs.Fixed.{GoesAhead, plan_of, fixed_bytes}
use Rattle.earliest_starts.specs.Clashes.{IsWaitingRing, MissesSlot, MissesWindow, IsOverfull, IsClash}
use Rattle.earliest_starts.specs.Answers.{IsEarliest}
use Rattle.earliest_starts.proofs.Sound.{channel_at}
use Rattle.branch_tree.specs.Closers.{IsClosedBy, closer_of}
use Rattle.branch_tree.proofs.CompleteSteps.{IsWay, starting, start, onward, closing, reach, no_window}

-- what is fixed counts on its channel
fixed_counts : (k : ℕ) (o : Option ℕ) → IsSome o → is_fixed_on k o ≡ is_on k (unwrap_or o 0)
fixed_counts k None some = absurd (false≢true some)
fixed_counts k (Some fixed) some = refl

module _ (i : Instance) (c : Choice) (goal : ℕ) (w : IsInstance i) (ok : IsChoice i c) (done : IsComplete i c) where
  ahead_inside : (p q : ℕ) → GoesAhead i c p q → p < length i.processes
  ahead_inside p q (inl chosen) = (ok.pairs p q chosen).first
  ahead_inside p q (inr link) = rw (← link.before) (w.indices (AtLink link.link) link.is_there).0

  known_ahead : (p q : ℕ) → GoesAhead i c p q → IsAhead i (first_facts i c) p q
  known_ahead p q (inl chosen) = inl chosen
  known_ahead p q (inr link) = inr (inl link)

  cycle_closed : (ps : List ℕ) → IsWaitingRing i c ps → IsClosedBy i c goal (XCycle ps)
  cycle_closed ps ring = closing i c goal (first_facts i c) (XCycle ps) (start i c goal) (ring.two, inside)
      (record {
        each = λ k h. known_ahead (slice_index ps k) (slice_index ps (k + 1)) (ring.each k h);
        closes = known_ahead (slice_index ps (length ps - 1)) (slice_index ps 0) ring.closes;
      }) refl
    where
      inside : (k : ℕ) → k < length ps → slice_index ps k < length i.processes
      inside k h = elim (cases_lt (k + 1) (length ps)) [
        | inl more ↦ ahead_inside (slice_index ps k) (slice_index ps (k + 1)) (ring.each k more)
        | inr last ↦
            let is : length ps - 1 ≡ k = omega (arith, h, last) in
            rw (← is) (ahead_inside (slice_index ps (length ps - 1)) (slice_index ps 0) ring.closes)
      ]

  window_closed : (p : ℕ) → MissesWindow i c p → IsClosedBy i c goal (XWindow p)
  window_closed p misses = no_window i c goal w ok done p misses.time misses.process misses.waits (elim misses.late [
    | inl late ↦ omega (arith, late)
    | inr late ↦ omega (arith, late)
  ])

  source_inside : (m : ℕ) → m < length i.messages → source_of i m < length i.nodes
  source_inside m h = w.indices (AtProcess (message_at i m).sender) (w.indices (AtMessage m) h).0

  first_top : (m : ℕ) → m < length i.messages → top_of (first_facts i c) m ≡ least_round c m + 1
  first_top m h = omega (arith, get_or-map (λ (r : ℕ). r + 1) c.hi m 0 0 (omega (arith, h, ok.hi_length)), done.rounds m h)

  -- later rounds begin later
  earlier_round : (n r s : ℕ) → r ≤ s → start_most i c n r ≤ start_most i c n s
  earlier_round n r s le = omega (arith, mul-le-mul_right (total (dur_most i c) (length i.nodes)) le)

  -- where the sender is known to end too late for the slot, the message is known to be sent in a later round
  late_sender : (m : ℕ) (es : List ℕ) → m < length i.messages → IsWay i c goal (starting i c es)
      → start_most i c (source_of i m) (least_round c m) < least_ready i (starting i c es) m → IsClosedBy i c goal (XRound m)
  late_sender m es inside way late =
      let f = starting i c es in
      let k = concludes_some i c goal f (LoSend m) w tt in
      let r = k.1.0 in
      let chance : IsFirstChance i c f m r = k.1.1 in
      let g = sharpened i f (SentFrom m r) in
      let sent = onward i c goal f (LoSend m) g (λ is. is) way
      (record { there = inside; premise = tt; conclusion = SentFrom m r; concludes = (r, chance, refl); known = refl }) refl in
      let past : least_round c m < r = elim (cases_lt (least_round c m) r) [
        | inl below ↦ below
        | inr not_below ↦ absurd (omega (arith, late, chance.late_enough, earlier_round (source_of i m) r (least_round c m) not_below))
      ] in
      let here = get_or-set_same c.lo m (max (least_round c m) (capped i r)) 0 (omega (arith, inside, ok.lo_length)) in
      closing i c goal g (XRound m) sent inside (omega (arith, here, first_top m inside, past, ok.within m inside, done.rounds m inside)) refl

  -- where the slot begins past the horizon, the message is known to come too late for its first receiver
  late_slot : (m : ℕ) (es : List ℕ) → m < length i.messages → IsWay i c goal (starting i c es)
      → i.cluster.horizon < end_least i c (source_of i m) (least_round c m) → IsClosedBy i c goal (XRound m)
  late_slot m es inside way late =
      let f = starting i c es in
      let q = slice_index (message_at i m).receivers 0 in
      let receives : GoesTo i m q = (inside, Contains-get_or (message_at i m).receivers 0 0 (w.receivers m inside)) in
      let k = concludes_some i c goal f (HiArrive m q) w tt in
      let r = k.1.0 in
      let chances : AreChances i c f m q r = k.1.1 in
      let g = sharpened i f (SentBefore m r) in
      let sent = onward i c goal f (HiArrive m q) g (λ is. is) way
      (record { there = receives; premise = tt; conclusion = SentBefore m r; concludes = (r, chances, refl); known = refl }) refl in
      let q_is : q < length i.processes = (w.indices (AtMessage m) inside).1 0 0 (w.receivers m inside) in
      let horizon : slice_index f.le q ≡ i.cluster.horizon = get_or-replicate {A = ℕ} (length i.processes) q i.cluster.horizon 0 q_is in
      let past : r ≤ least_round c m = elim (cases_lt (least_round c m) r) [
        | inl below ↦ absurd (let fits = (chances (least_round c m)).0 below in omega (arith, fits, horizon, late))
        | inr not_below ↦ not_below
      ] in
      let here = get_or-set_same f.top m (min (top_of f m) r) 0 (omega (arith, inside, length-map c.hi (λ (s : ℕ). s + 1), ok.hi_length)) in
      closing i c goal g (XRound m) sent inside (omega (arith, here, past)) refl

  round_closed : (m : ℕ) → MissesSlot i c m → IsClosedBy i c goal (XRound m)
  round_closed m misses =
      let inside = misses.message in
      let n = source_of i m in
      let r = least_round c m in
      let to = reach i c goal w ok done (message_at i m).sender misses.time misses.waits in
      let begins = start_exact i c w ok done n r (source_inside m inside) in
      let ends = end_exact i c w ok done n r (source_inside m inside) in
      elim (cases_lt (start_most i c n r) (least_ready i (starting i c to.es) m)) [
        | inl late ↦ late_sender m to.es inside to.way late
        | inr early ↦ late_slot m to.es inside to.way (omega (arith, early, begins, ends, to.known, misses.late))
      ]

  -- a message counts on the channel that it is sent on
  counts_there : (k m : ℕ) → m < length i.messages → counts_on c k m ≡ is_on k (channel_of (plan_of c []) m)
  counts_there k m h =
      fixed_counts k (fixed_channel c m) (done.channels m h) ∙ ap (is_on k) (sym (channel_at c m (omega (arith, h, ok.channels_length))))

  -- of a frame of one round
  module _ (n r : ℕ) where
    in_the_round : (m : ℕ) → m < length i.messages → bytes_within i (first_facts i c) n r (r + 1) m ≡ bytes_in i (plan_of c []) n r m
    in_the_round m h =
        ap (λ (b : Bool). if (source_of i m == n) && b then (message_at i m).bytes else 0)
        (one_round (least_round c m) (top_of (first_facts i c) m) r (first_top m h))

    one_capacity : ((r + 1) - r) * cap_most i c n ≡ cap_most i c n
    one_capacity =
        let one : (r + 1) - r ≡ 1 = omega arith in
        let whole : 1 * cap_most i c n ≡ cap_most i c n = omega arith in
        ap (λ (k : ℕ). k * cap_most i c n) one ∙ whole

    -- on the only channel are the messages of all channels
    only_closed : (k : ℕ) → i.cluster.channels ≡ 1 → IsOverfull i c n r k → IsClosedBy i c goal (XFrames n r (r + 1))
    only_closed k alone over =
        let sent : total (fixed_bytes i c n r k) (length i.messages) ≤ total (bytes_within i (first_facts i c) n r (r + 1)) (length i.messages) =
        total_le (fixed_bytes i c n r k) (bytes_within i (first_facts i c) n r (r + 1)) (length i.messages)
        (λ m h. omega (arith, on_at_most i (plan_of c []) n r k m, in_the_round m h)) in
        let once = total_copied_alone i c (first_facts i c) n r (r + 1) alone ok in
        let whole : 1 * cap_most i c n ≡ cap_most i c n = omega arith in
        let times : i.cluster.channels * (((r + 1) - r) * cap_most i c n) ≡ cap_most i c n =
        ap (λ (x : ℕ). i.cluster.channels * x) one_capacity ∙ (ap (λ (x : ℕ). x * cap_most i c n) alone ∙ whole) in
        let more : i.cluster.channels * (((r + 1) - r) * cap_most i c n) < total (bytes_copied i c (first_facts i c) n r (r + 1)) (length i.messages) =
        omega (arith, times, once, sent, over.over, cap_exact i c w ok done n over.node) in
        closing i c goal (first_facts i c) (XFrames n r (r + 1)) (start i c goal) over.node (record { span = omega arith; bytes = more }) refl

    -- on one of two channels are those that are fixed to it
    on_channel : (k m : ℕ) → m < length i.messages → bytes_counted i c (first_facts i c) k n r (r + 1) m ≡ fixed_bytes i c n r k m
    on_channel k m h =
        ap (λ (b : Bool). if b then bytes_within i (first_facts i c) n r (r + 1) m else 0) (counts_there k m h)
        ∙ ap (λ (x : ℕ). if is_on k (channel_of (plan_of c []) m) then x else 0) (in_the_round m h)

    one_of_two_closed : (k : ℕ) → i.cluster.channels ≢ 1 → IsOverfull i c n r k → IsClosedBy i c goal (XChannel k n r (r + 1))
    one_of_two_closed k several over =
        let two : 2 ≤ i.cluster.channels = omega (arith, several, (w.ranges AtCluster).channels_least) in
        let all = total_same (bytes_counted i c (first_facts i c) k n r (r + 1)) (fixed_bytes i c n r k) (length i.messages) (on_channel k) in
        let more : ((r + 1) - r) * cap_most i c n < total (bytes_counted i c (first_facts i c) k n r (r + 1)) (length i.messages) =
        omega (arith, one_capacity, all, over.over, cap_exact i c w ok done n over.node) in
        closing i c goal (first_facts i c) (XChannel k n r (r + 1)) (start i c goal) (
          over.node,
          (two, over.channel),
        ) (record { span = omega arith; bytes = more }) refl

    -- the closer by whether there is one channel
    abbrev by_channels : ℕ → Bool → Step
    by_channels k alone = if alone then XFrames n r (r + 1) else XChannel k n r (r + 1)

    frame_closed : (k : ℕ) → IsOverfull i c n r k → IsClosedBy i c goal (by_channels k (i.cluster.channels == 1))
    frame_closed k over = elim (cases_eq i.cluster.channels 1) [
      | inl alone ↦ subst (λ (b : Bool). IsClosedBy i c goal (by_channels k b)) (sym (eq-eqb i.cluster.channels 1 alone)) (only_closed k alone over)
      | inr several ↦ subst (λ (b : Bool). IsClosedBy i c goal (by_channels k b)) (sym (ne_eqb i.cluster.channels 1 several)) (one_of_two_closed k several over)
    ]

  pub clash_closed : (clash : Clash) → IsClash i c clash → IsClosedBy i c goal (closer_of i clash)
  clash_closed (Cycle ps) ring = cycle_closed ps ring
  clash_closed (Round m) misses = round_closed m misses
  clash_closed (Window p) misses = window_closed p misses
  clash_closed (Frame n r k) over = frame_closed n r k over

  pub plan_closed : (plan : Plan) → IsEarliest i c plan → goal ≤ delay i plan → (p : ℕ) × (p < length i.processes) × IsClosedBy i c goal (XWindow p)
  plan_closed plan earliest within =
      let last = greatest_reached (end_of i plan) (length i.processes) (omega (arith, w.limits.processes_least)) in
      let p = last.0 in
      let fits = earliest.valid.in_time p last.1 in
      let takes = (w.ranges (AtProcess p) last.1).wcet_least in
      (p, last.1, no_window i c goal w ok done p (start_of plan p) last.1 (earliest.waits p last.1) (omega (arith, fits.1, within, last.2, takes)))
