-- Where no step sharpens any more what is known of a complete choice, the earliest starts are those of a valid plan below the goal.
use Rattle.std.proofs.Common.{◌≡◌, ℕ, ◌+◌, ◌-◌, ◌*◌, ◌<◌, ◌≤◌, ◌⊎◌, ◌==◌, ◌&&◌, nat_le, if◌then◌else◌, List, [], ◌∷◌, length, slice_index, map, unwrap_or, Option, None, Some, IsSome, All, Contains, Bool, IsTrue, IsFalse, arith, inl, inr, refl, ap, ap₂, sym, subst, ◌∙◌}
use Rattle.std.proofs.lemmas.Bool.{cases_lt, cases_order, cases_Bool, false≢true, le-leb, leb-true, eq-eqb, ne_eqb}
use Rattle.std.proofs.lemmas.List.{get_or-map, length-map}
use Rattle.std.proofs.lemmas.List.Elements.{All-contains, Contains-get_or}
use Rattle.std.proofs.lemmas.Grind.{same_number_lists}
use Rattle.ttp_model.specs.declared.error.Place.TheVariants.{AtCluster, AtProcess, AtMessage}
use Rattle.ttp_model.specs.declared.plan.Plan.{Plan}
use Rattle.ttp_model.specs.declared.step.Step.{Step}
use Rattle.ttp_model.specs.declared.step.Step.TheVariants.{EsBefore, EsArrive, LeSend, XRound, XFrames, XChannel}
use Rattle.ttp_model.specs.Instance.{Instance, node_at, message_at, source_of}
use Rattle.ttp_model.specs.Rules.{IsInstance}
use Rattle.ttp_model.specs.Slots.{slot_start, slot_end}
use Rattle.ttp_model.specs.Plans.{HasLengths, IsValid, IsNodeOrder, HasOwnCapacity, HasOwnChannel, MayBeOn, AreApart, FitsFrame, end_of, channel_of, bytes_in, bytes_on, load_of, load_on, is_on}
use Rattle.ttp_model.specs.Lists.{EachBelow}
use Rattle.ttp_model.proofs.Channels.{on_at_most}
use Rattle.ttp_model.proofs.ValidPlans.{greatest_reached}
use Rattle.ttp_model.specs.Totals.{total}
use Rattle.tt_choice.specs.Choice.{Choice, IsChoice, IsComplete, IsIn, IsOption, IsChannel, IsFixedTo, ArePair, Agrees, fixed_cap, fixed_channel, is_before, least_round, greatest_round}
use Rattle.tt_choice.specs.Extremes.{start_most, end_least, cap_most}
use Rattle.tt_choice.proofs.Exact.{start_most_is_most, end_least_is_least, cap_most_is_most}
use Rattle.tt_choice.proofs.Extend.{from_parts, order_of}
use Rattle.ttp_model.proofs.Totals.{total_le, total_same}
use Rattle.tt_infer.specs.Known.{Known, first_facts, es_of, lo_of as known_lo, top_of}
use Rattle.tt_infer.specs.Facts.{Facts, AreFacts}
use Rattle.tt_infer.specs.Conclusions.{NothingLeft}
use Rattle.tt_infer.specs.Premises.{GoesTo, least_end, bytes_within, bytes_copied, bytes_counted, is_fixed_on}
use Rattle.tt_infer.proofs.Channels.{total_copied_alone}
use Rattle.tt_infer.specs.Known.{Fits}
use Rattle.tt_infer.proofs.FirstFacts.{first_facts_fit}
use Rattle.tt_infer.proofs.Sharper.{IsSharper, IsSharper-step}
use Rattle.tt_infer.proofs.Sound.{Fits-step}
use Rattle.step_logs.specs.Journal.{Journal, Advances, SharpensNothing}
use Rattle.step_logs.specs.Required.{HasCompleteSteps}
use Rattle.tt_infer.specs.Leaves.{LeadSharply}
use Rattle.step_logs.specs.PlansBelow.{IsPlanBelow}
use Rattle.step_logs.proofs.Idle.{same_after, ended, not_closed, window, own, from, released, linked, receiver_inside}

-- the capacity of each node
abbrev fixed_caps : Choice → List ℕ
fixed_caps c = map (λ (fixed : Option ℕ). unwrap_or fixed 0) c.fixed

-- the channel of each message
abbrev fixed_channels : Choice → List ℕ
fixed_channels c = map (λ (fixed : Option ℕ). unwrap_or fixed 0) c.channels

-- the plan of the choice with these starts
abbrev plan_of : Choice → List ℕ → Plan
plan_of c starts = record { order = c.prefix; caps = fixed_caps c; starts = starts; rounds = c.lo; channels = fixed_channels c }

fixed_at : (c : Choice) (n : ℕ) → n < length c.fixed → slice_index (fixed_caps c) n ≡ unwrap_or (fixed_cap c n) 0
fixed_at c n h = get_or-map (λ (fixed : Option ℕ). unwrap_or fixed 0) c.fixed n None 0 h

length-fixed_caps : (c : Choice) → length (fixed_caps c) ≡ length c.fixed
length-fixed_caps c = length-map c.fixed (λ (fixed : Option ℕ). unwrap_or fixed 0)

channel_at : (c : Choice) (m : ℕ) → m < length c.channels → slice_index (fixed_channels c) m ≡ unwrap_or (fixed_channel c m) 0
channel_at c m h = get_or-map (λ (fixed : Option ℕ). unwrap_or fixed 0) c.channels m None 0 h

length-fixed_channels : (c : Choice) → length (fixed_channels c) ≡ length c.channels
length-fixed_channels c = length-map c.channels (λ (fixed : Option ℕ). unwrap_or fixed 0)

is_fixed : (o : Option ℕ) (capacity : ℕ) → IsSome o → IsFixedTo o capacity → capacity ≡ unwrap_or o 0
is_fixed None capacity some is = absurd (false≢true some)
is_fixed (Some fixed) capacity some is = is

own_option : (i : Instance) (n : ℕ) (o : Option ℕ) → IsSome o → IsOption i n o → Contains (node_at i n).capacities (unwrap_or o 0)
own_option i n None some is = absurd (false≢true some)
own_option i n (Some fixed) some is = is

own_channel : (i : Instance) (m : ℕ) (o : Option ℕ) → IsSome o → IsChannel i m o → MayBeOn i m (unwrap_or o 0)
own_channel i m None some is = absurd (false≢true some)
own_channel i m (Some fixed) some is = is

-- a message counts on the channels that it is fixed to
counts_where_fixed : (k : ℕ) (o : Option ℕ) → IsSome o → is_fixed_on k o ≡ is_on k (unwrap_or o 0)
counts_where_fixed k None some = absurd (false≢true some)
counts_where_fixed k (Some fixed) some = refl

fixed_to : (o : Option ℕ) → IsFixedTo o (unwrap_or o 0)
fixed_to None = tt
fixed_to (Some fixed) = refl

module _ (i : Instance) (c : Choice) (w : IsInstance i) (ok : IsChoice i c) (done : IsComplete i c) where
  order_agreed : (order caps : List ℕ) → Agrees i c order caps → order ≡ c.prefix
  order_agreed order caps a = same_number_lists order c.prefix (a.nodes.all ∙ sym done.placed) (λ k h. a.prefix k (omega (arith, h, a.nodes.all, done.placed)))

  caps_agreed : (order caps : List ℕ) → Agrees i c order caps → caps ≡ fixed_caps c
  caps_agreed order caps a = same_number_lists caps (fixed_caps c) (a.caps_length ∙ sym (length-fixed_caps c ∙ ok.fixed_length)) (λ n h.
      let inside : n < length i.nodes = omega (arith, h, a.caps_length) in
      is_fixed (fixed_cap c n) (slice_index caps n) (done.fixed n inside) (a.fixed n inside) ∙ sym (fixed_at c n (omega (arith, inside, ok.fixed_length))))

  -- the extremes of a complete choice are its plan's
  pub start_exact : (n r : ℕ) → n < length i.nodes → slot_start i.cluster c.prefix (fixed_caps c) n r ≡ start_most i c n r
  start_exact n r inside =
      let most = start_most_is_most i c n r w ok inside in
      ap (λ (order : List ℕ). slot_start i.cluster order (fixed_caps c) n r) (sym (order_agreed most.order most.caps most.agrees))
      ∙ ap (λ (caps : List ℕ). slot_start i.cluster most.order caps n r) (sym (caps_agreed most.order most.caps most.agrees))
      ∙ most.reached

  pub end_exact : (n r : ℕ) → n < length i.nodes → slot_end i.cluster c.prefix (fixed_caps c) n r ≡ end_least i c n r
  end_exact n r inside =
      let least = end_least_is_least i c n r w ok inside in
      ap (λ (order : List ℕ). slot_end i.cluster order (fixed_caps c) n r) (sym (order_agreed least.order least.caps least.agrees))
      ∙ ap (λ (caps : List ℕ). slot_end i.cluster least.order caps n r) (sym (caps_agreed least.order least.caps least.agrees))
      ∙ least.reached

  pub cap_exact : (n : ℕ) → n < length i.nodes → slice_index (fixed_caps c) n ≡ cap_most i c n
  cap_exact n inside =
      let most = cap_most_is_most i c n w ok inside in
      rw (← caps_agreed most.order most.caps most.agrees) most.reached

  order_fits : IsNodeOrder (length i.nodes) c.prefix
  order_fits = order_of (length i.nodes) c.prefix (from_parts (length i.nodes) c.prefix ok.nodes ok.once) done.placed

  own_caps : EachBelow (length i.nodes) (HasOwnCapacity i (fixed_caps c))
  own_caps n h = record { own = subst (Contains (node_at i n).capacities) (sym (fixed_at c n (omega (arith, h, ok.fixed_length)))) (own_option i n (fixed_cap c n) (done.fixed n h) (ok.options n h)) }

  one_before : (p q : ℕ) → ArePair i p q → IsTrue (is_before c p q) ⊎ IsTrue (is_before c q p)
  one_before p q pair = elim (cases_order p q) [
    | inl same ↦ absurd (pair.two same)
    | inr apart ↦ elim apart [
      | inl up ↦ elim (done.ordered q p up pair.second (sym pair.one_node)) [ inl back ↦ inr back | inr forth ↦ inl forth ]
      | inr down ↦ done.ordered p q down pair.first pair.one_node
    ]
  ]

-- whether a message that is sent in one round is sent in another
pub one_round : (lo top r : ℕ) → top ≡ lo + 1 → (nat_le r lo && nat_le top (r + 1)) ≡ (lo == r)
one_round lo top r is = elim (cases_order lo r) [
  | inl same ↦ rw (eq-eqb lo r same, le-leb r lo (omega (arith, same)), le-leb top (r + 1) (omega (arith, is, same))) refl
  | inr apart ↦ elim apart [
    | inl below ↦ rw (ne_eqb lo r (λ same. omega (arith, below, same)), no_le r lo below) refl
    | inr above ↦ rw (ne_eqb lo r (λ same. omega (arith, above, same)), no_le top (r + 1) (omega (arith, is, above))) (and_no (nat_le r lo))
  ]
]
  where
    no_le : (a b : ℕ) → b < a → nat_le a b ≡ Bool.false
    no_le a b over = elim (cases_Bool (nat_le a b)) [
      | inl holds ↦ absurd (let le = leb-true a b holds in omega (arith, le, over))
      | inr fails ↦ fails
    ]

    and_no : (b : Bool) → (b && Bool.false) ≡ Bool.false
    and_no b = elim b as (λ (b : Bool). (b && Bool.false) ≡ Bool.false) [ Bool.true ↦ refl | Bool.false ↦ refl ]

module _ (s : Facts) (ok : AreFacts s) (left : IsFalse s.known.closed) (steps : List Step) (more : HasCompleteSteps s.instance s.choice steps) (idle : All (SharpensNothing s) steps) (sharper : IsSharper (first_facts s.instance s.choice) s.known) (done : IsComplete s.instance s.choice) where
  idle_of : (step : Step) → Contains steps step → SharpensNothing s step
  idle_of step there = All-contains (SharpensNothing s) steps step idle there

  source_inside : (m : ℕ) → m < length s.instance.messages → source_of s.instance m < length s.instance.nodes
  source_inside m h = ok.instance.indices (AtProcess (message_at s.instance m).sender) (ok.instance.indices (AtMessage m) h).0

  sender_inside : (m : ℕ) → m < length s.instance.messages → (message_at s.instance m).sender < length s.instance.processes
  sender_inside m h = (ok.instance.indices (AtMessage m) h).0

  open_round : (m : ℕ) → m < length s.instance.messages → known_lo s.known m < top_of s.known m
  open_round m h = elim (cases_lt (known_lo s.known m) (top_of s.known m)) [
    | inl below ↦ below
    | inr over ↦ absurd (not_closed s ok left (same_after s ok left (XRound m) NothingLeft (idle_of _ (more.rounds m h).round) h over refl))
  ]

  first_top : (m : ℕ) → m < length s.instance.messages → top_of (first_facts s.instance s.choice) m ≡ greatest_round s.choice m + 1
  first_top m h = get_or-map (λ (r : ℕ). r + 1) s.choice.hi m 0 0 (omega (arith, h, ok.choice.hi_length))

  -- each message has one round left
  round_is : (m : ℕ) → m < length s.instance.messages → known_lo s.known m ≡ least_round s.choice m
  round_is m h = omega (arith, open_round m h, sharper.lo m, sharper.top m, first_top m h, done.rounds m h)

  top_is : (m : ℕ) → m < length s.instance.messages → top_of s.known m ≡ least_round s.choice m + 1
  top_is m h = omega (arith, open_round m h, sharper.lo m, sharper.top m, first_top m h, done.rounds m h)

  after : (p q : ℕ) → IsTrue (is_before s.choice p q) → least_end s.instance s.known p ≤ es_of s.known q
  after p q holds =
      let pair = ok.choice.pairs p q holds in
      from s ok left steps more.chain idle q _ pair.second (same_after s ok left (EsBefore p q) _ (idle_of _ (more.orders p q holds)) pair (sharper.bef p q holds) refl)

  arrives : (m q : ℕ) → GoesTo s.instance m q → slot_end s.instance.cluster s.choice.prefix (fixed_caps s.choice) (source_of s.instance m) (least_round s.choice m) + s.instance.cluster.copy_in ≤ es_of s.known q
  arrives m q receives =
      let known = from s ok left steps more.chain idle q _ (receiver_inside s ok left steps more.chain idle m q receives) (same_after s ok left (EsArrive m q) _ (idle_of _ (more.chain.messages m q receives).arrival) receives tt refl) in
      let exact = end_exact s.instance s.choice ok.instance ok.choice done (source_of s.instance m) (least_round s.choice m) (source_inside m receives.0) in
      omega (arith, known, exact, ap (end_least s.instance s.choice (source_of s.instance m)) (round_is m receives.0))

  ready : (m : ℕ) → m < length s.instance.messages → least_end s.instance s.known (message_at s.instance m).sender + s.instance.cluster.copy_out ≤ slot_start s.instance.cluster s.choice.prefix (fixed_caps s.choice) (source_of s.instance m) (least_round s.choice m)
  ready m h =
      let sender = (message_at s.instance m).sender in
      let inside = sender_inside m h in
      let some : 1 ≤ top_of s.known m = omega (arith, top_is m h) in
      let last : top_of s.known m - 1 ≡ least_round s.choice m = omega (arith, top_is m h) in
      let known = ended s ok left sender _ inside (same_after s ok left (LeSend m) _ (idle_of _ (more.rounds m h).send) h some refl) in
      let exact = start_exact s.instance s.choice ok.instance ok.choice done (source_of s.instance m) (least_round s.choice m) (source_inside m h) in
      omega (arith, known, exact, ap (start_most s.instance s.choice (source_of s.instance m)) last, window s ok left steps more.chain idle sender inside, ((ok.instance.ranges (AtProcess sender)) inside).wcet_least)

  same_bytes : (n r m : ℕ) → m < length s.instance.messages → bytes_within s.instance s.known n r (r + 1) m ≡ bytes_in s.instance (plan_of s.choice s.known.es) n r m
  same_bytes n r m h =
      let test = one_round (known_lo s.known m) (top_of s.known m) r (omega (arith, round_is m h, top_is m h)) in
      let round = ap (λ (k : ℕ). k == r) (round_is m h) in
      ap (λ (b : Bool). if (source_of s.instance m == n) && b then (message_at s.instance m).bytes else 0) (test ∙ round)

  channel_is : (m : ℕ) → m < length s.instance.messages → channel_of (plan_of s.choice s.known.es) m ≡ unwrap_or (fixed_channel s.choice m) 0
  channel_is m h = channel_at s.choice m (omega (arith, h, ok.choice.channels_length))

  -- on a channel a message counts with what it puts there
  same_on : (n r k m : ℕ) → m < length s.instance.messages → bytes_counted s.instance s.choice s.known k n r (r + 1) m ≡ bytes_on s.instance (plan_of s.choice s.known.es) n r k m
  same_on n r k m h =
      let counts : is_fixed_on k (fixed_channel s.choice m) ≡ is_on k (channel_of (plan_of s.choice s.known.es) m) = counts_where_fixed k (fixed_channel s.choice m) (done.channels m h) ∙ ap (is_on k) (sym (channel_is m h)) in
      ap₂ (λ (b : Bool) (bytes : ℕ). if b then bytes else 0) counts (same_bytes n r m h)

  -- so with one channel the whole frame fits
  whole_fits : s.instance.cluster.channels ≡ 1 → (m : ℕ) → m < length s.instance.messages → load_of s.instance (plan_of s.choice s.known.es) (source_of s.instance m) (least_round s.choice m) ≤ slice_index (fixed_caps s.choice) (source_of s.instance m)
  whole_fits alone m h =
      let n = source_of s.instance m in
      let r = least_round s.choice m in
      let one : (r + 1) - r ≡ 1 = omega arith in
      let same = total_same (bytes_within s.instance s.known n r (r + 1)) (bytes_in s.instance (plan_of s.choice s.known.es) n r) (length s.instance.messages) (λ k inside. same_bytes n r k inside) in
      let copied = total_copied_alone s.instance s.choice s.known n r (r + 1) alone ok.choice in
      let exact = cap_exact s.instance s.choice ok.instance ok.choice done n (source_inside m h) in
      elim (cases_lt (s.instance.cluster.channels * (((r + 1) - r) * cap_most s.instance s.choice n)) (total (bytes_copied s.instance s.choice s.known n r (r + 1)) (length s.instance.messages))) [
        | inl over ↦ absurd (not_closed s ok left (same_after s ok left (XFrames n r (r + 1)) NothingLeft (idle_of _ ((more.rounds m h).frame alone)) (source_inside m h) (record { span = omega arith; bytes = over }) refl))
        | inr fits ↦
            let whole : 1 * (1 * cap_most s.instance s.choice n) ≡ cap_most s.instance s.choice n = omega arith in
            let times : s.instance.cluster.channels * (((r + 1) - r) * cap_most s.instance s.choice n) ≡ cap_most s.instance s.choice n = ap₂ (λ (j : ℕ) (k : ℕ). j * (k * cap_most s.instance s.choice n)) alone one ∙ whole in
            let known = rw times at fits in
            omega (arith, known, exact, same, copied)
      ]

  -- and with more its half on each of them
  half_fits : 2 ≤ s.instance.cluster.channels → (k m : ℕ) → k < s.instance.cluster.channels → m < length s.instance.messages → load_on s.instance (plan_of s.choice s.known.es) (source_of s.instance m) (least_round s.choice m) k ≤ slice_index (fixed_caps s.choice) (source_of s.instance m)
  half_fits two k m there h =
      let n = source_of s.instance m in
      let r = least_round s.choice m in
      let one : (r + 1) - r ≡ 1 = omega arith in
      let same = total_same (bytes_counted s.instance s.choice s.known k n r (r + 1)) (bytes_on s.instance (plan_of s.choice s.known.es) n r k) (length s.instance.messages) (λ j inside. same_on n r k j inside) in
      let exact = cap_exact s.instance s.choice ok.instance ok.choice done n (source_inside m h) in
      elim (cases_lt (((r + 1) - r) * cap_most s.instance s.choice n) (total (bytes_counted s.instance s.choice s.known k n r (r + 1)) (length s.instance.messages))) [
        | inl over ↦ absurd (not_closed s ok left (same_after s ok left (XChannel k n r (r + 1)) NothingLeft (idle_of _ ((more.rounds m h).channels k there two)) (source_inside m h, (two, there)) (record { span = omega arith; bytes = over }) refl))
        | inr fits ↦
            let whole : 1 * cap_most s.instance s.choice n ≡ cap_most s.instance s.choice n = omega arith in
            let times : ((r + 1) - r) * cap_most s.instance s.choice n ≡ cap_most s.instance s.choice n = ap (λ (j : ℕ). j * cap_most s.instance s.choice n) one ∙ whole in
            let known = rw times at fits in
            omega (arith, known, exact, same)
      ]

  frame_fits : (m : ℕ) → m < length s.instance.messages → FitsFrame s.instance (plan_of s.choice s.known.es) m
  frame_fits m h k there is = elim (cases_lt 1 s.instance.cluster.channels) [
    | inl two ↦ half_fits two k m there h
    | inr few ↦
        let least = (ok.instance.ranges AtCluster).channels_least in
        let most = total_le (bytes_on s.instance (plan_of s.choice s.known.es) (source_of s.instance m) (least_round s.choice m) k) (bytes_in s.instance (plan_of s.choice s.known.es) (source_of s.instance m) (least_round s.choice m)) (length s.instance.messages) (λ j inside. on_at_most s.instance (plan_of s.choice s.known.es) (source_of s.instance m) (least_round s.choice m) k j) in
        omega (arith, most, whole_fits (omega (arith, few, least)) m h)
  ]

  on_own : EachBelow (length s.instance.messages) (HasOwnChannel s.instance (plan_of s.choice s.known.es))
  on_own m h =
      let own = own_channel s.instance m (fixed_channel s.choice m) (done.channels m h) (ok.choice.channels m h) in
      subst (MayBeOn s.instance m) (sym (channel_is m h)) own

  apart : (p q : ℕ) → p < q → q < length s.instance.processes → AreApart s.instance (plan_of s.choice s.known.es) p q
  apart p q up h same = elim (one_before s.instance s.choice ok.instance ok.choice done p q (record { first = omega (arith, up, h); second = h; two = λ equal. omega (arith, equal, up); one_node = same })) [
    | inl forth ↦ inl (after p q forth)
    | inr back ↦ inr (after q p back)
  ]

  lengths : HasLengths s.instance (plan_of s.choice s.known.es)
  lengths = record {
    order = done.placed;
    capacities = length-fixed_caps s.choice ∙ ok.choice.fixed_length;
    starts = ok.fits.es;
    rounds = ok.choice.lo_length;
    channels = length-fixed_channels s.choice ∙ ok.choice.channels_length;
  }

  valid : IsValid s.instance (plan_of s.choice s.known.es)
  valid = record {
    lengths = lengths;
    order = order_fits s.instance s.choice ok.instance ok.choice done;
    capacities = own_caps s.instance s.choice ok.instance ok.choice done;
    released = λ p h. released s ok left steps more.chain idle p h;
    in_time = λ p h. (omega (arith, window s ok left steps more.chain idle p h, own s ok left steps more.chain idle p h), omega (arith, window s ok left steps more.chain idle p h, own s ok left steps more.chain idle p h));
    apart = λ p h q. apart p q;
    links = λ l h. linked s ok left steps more.chain idle l h;
    ready = λ m h. ready m h;
    arrived = λ m h k inside. arrives m (slice_index (message_at s.instance m).receivers k) (h, Contains-get_or (message_at s.instance m).receivers k 0 inside);
    frames = λ m h. frame_fits m h;
    on_own = on_own;
  }

  chosen : IsIn s.instance s.choice (plan_of s.choice s.known.es)
  chosen = record {
    lengths = lengths;
    prefix = λ k h. refl;
    fixed = λ n h. subst (IsFixedTo (fixed_cap s.choice n)) (sym (fixed_at s.choice n (omega (arith, h, ok.choice.fixed_length)))) (fixed_to (fixed_cap s.choice n));
    pairs = λ p q holds. after p q holds;
    ranges = λ m h. (omega arith, ok.choice.ranges m h);
    channels = λ m h. subst (IsFixedTo (fixed_channel s.choice m)) (sym (channel_is m h)) (fixed_to (fixed_channel s.choice m));
  }

  pub found : (plan : Plan) × IsPlanBelow s.instance s.choice s.goal plan
  found =
      let last = greatest_reached (end_of s.instance (plan_of s.choice s.known.es)) (length s.instance.processes) (omega (arith, ok.instance.limits.processes_least)) in (
        plan_of s.choice s.known.es,
        record {
          valid = valid;
          chosen = chosen;
          better = omega (arith, last.2, window s ok left steps more.chain idle last.0 last.1, own s ok left steps more.chain idle last.0 last.1, ((ok.instance.ranges (AtProcess last.0)) last.1).wcet_least);
        },
      )

-- Steps one after another only sharpen.
sharper_same : (f : Known) → IsSharper f f
sharper_same f = record { es = λ p. omega arith; le = λ p. omega arith; lo = λ m. omega arith; top = λ m. omega arith; bef = λ p q is. is; closed = λ is. is }

sharper_further : (f g h : Known) → IsSharper f g → IsSharper g h → IsSharper f h
sharper_further f g h first second = record {
  es = λ p. omega (arith, first.es p, second.es p);
  le = λ p. omega (arith, first.le p, second.le p);
  lo = λ m. omega (arith, first.lo m, second.lo m);
  top = λ m. omega (arith, first.top m, second.top m);
  bef = λ p q is. second.bef p q (first.bef p q is);
  closed = λ is. second.closed (first.closed is);
}

lead_sharpens : (i : Instance) (c : Choice) (goal : ℕ) (f : Known) (steps : List Step) (g : Known) → IsInstance i → Fits i f → LeadSharply i c goal f steps g → IsSharper f g
lead_sharpens i c goal f [] g w fits lead = rw lead (sharper_same f)
lead_sharpens i c goal f (step ∷ steps) g w fits lead =
    let next = lead.1.0 in
    let once = IsSharper-step i c goal f step next w fits lead.1.1 in
    sharper_further f next g once (lead_sharpens i c goal next steps g w (Fits-step i c goal f step next fits lead.1.1) lead.1.3)

-- so it is of what a log comes to that began with the first facts
pub found_of : (i : Instance) (c : Choice) (goal : ℕ) (old new : Journal) (steps : List Step) → old.facts ≡ record { instance = i; choice = c; goal = goal; known = first_facts i c } → Advances old new → AreFacts new.facts → HasCompleteSteps i c steps → All (SharpensNothing new.facts) steps → IsComplete i c → IsFalse new.facts.known.closed → (plan : Plan) × IsPlanBelow i c goal plan
found_of i c goal old new steps begins advances ok more idle done left =
    let first : Facts = record { instance = i; choice = c; goal = goal; known = first_facts i c } in
    let here : new.facts ≡ record { instance = i; choice = c; goal = goal; known = new.facts.known } = advances.facts ∙ ap (λ (s : Facts). record s { known = new.facts.known }) begins in
    let end : Facts = record { instance = i; choice = c; goal = goal; known = new.facts.known } in
    let kept : AreFacts end = rw (← here) ok in
    let still : All (SharpensNothing end) steps = rw (← here) idle in
    let lead : LeadSharply i c goal (first_facts i c) advances.more new.facts.known = rw begins at advances.lead in
    found end kept left steps more still (lead_sharpens i c goal (first_facts i c) advances.more new.facts.known kept.instance (first_facts_fit i c kept.choice) lead) done
