-- A plan is valid by its times alone where what it says of links and messages is as it was.
use Rattle.std.proofs.Common.{◌≡◌, ℕ, ◌<◌, ◌≤◌, ◌⊎◌, IsTrue, List, length, slice_index, slice_index_or, arith, inl, inr, refl, sym, ap, ◌∙◌}
use Rattle.ttp_model.specs.declared.parts.Process.{Process}
use Rattle.ttp_model.specs.declared.plan.Plan.{Plan}
use Rattle.ttp_model.specs.Lists.{EachBelow}
use Rattle.ttp_model.specs.Instance.{Instance, link_at, message_at, source_of}
use Rattle.ttp_model.specs.Plans.{IsValid, EndsBefore, Keeps, Releases, Ends, Overlaps, Links, Readiness, Arrivals, Frames, Channels, is_on, bytes_on, load_on, channel_of, end_of}
use Rattle.ttp_model.proofs.Totals.{total_same}
use Rattle.instance_variants.specs.Variants.{Variant, varied, timed, with_times, DifferInTimes, IsNoneLonger, IsVariant, KeepsTimes, sent_otherwise, AreSentAlike}
use Rattle.instance_variants.proofs.Places.{total_of_some}
use Rattle.instance_variants.proofs.Varied.{node_same, source_same, end_no_later, sent_from_same, sent_until_same, bytes_same}

module _ (i : Instance) (v : Variant) (is : IsVariant i v) (plan : Plan) (rounds channels : List ℕ) (alike : AreSentAlike v plan rounds channels) (valid : IsValid i plan) where
  abbrev j : Instance
  j = varied i v

  abbrev other : Plan
  other = sent_otherwise plan rounds channels

  arrived : Keeps j other Arrivals
  arrived m inside =
      let old = valid.arrived (v.message_place m) (is.message_there m inside) in
      rw ((is.message m inside).receivers, sent_until_same i v is plan rounds channels alike m inside) old

  -- the messages that are there load a frame by no more than all
  load_no_more : (n r c : ℕ) → load_on j other n r c ≤ load_on i plan n r c
  load_no_more n r c =
      let f : ℕ → ℕ = bytes_on i plan n r c in
      let same = total_same (bytes_on j other n r c) (λ m. f (v.message_place m)) (length v.messages)
      (λ m inside. bytes_same i v is plan rounds channels alike n r c m inside) in
      let some = total_of_some f v.message_place (length v.messages) (length i.messages) is.message_there is.rising in
      omega (arith, same, some)

  frames : Keeps j other Frames
  frames m inside c there on =
      let at = v.message_place m in
      let on_old : IsTrue (is_on c (channel_of plan at)) = rw (alike.channel m inside) at on in
      let old = valid.frames at (is.message_there m inside) c there on_old in
      let less = load_no_more (source_of i at) (slice_index plan.rounds at) c in
      rw (source_same i v is m inside, alike.round m inside) (omega (arith, old, less))

  on_own : Keeps j other Channels
  on_own m inside =
      let old = valid.on_own (v.message_place m) (is.message_there m inside) in
      rw (alike.channel m inside) (record { known = old.known; alone = old.alone; both = λ both. old.both ((is.message m inside).both both) })

  pub valid_by_times : KeepsTimes j other → IsValid j other
  valid_by_times times = record {
    lengths = record {
      order = valid.lengths.order;
      capacities = valid.lengths.capacities;
      starts = valid.lengths.starts ∙ sym is.processes.all;
      rounds = alike.rounds_many;
      channels = alike.channels_many;
    };
    order = valid.order;
    capacities = λ n inside. record { own = (valid.capacities n inside).own };
    released = times.released;
    in_time = times.in_time;
    apart = times.apart;
    links = times.links;
    ready = times.ready;
    arrived = arrived;
    frames = frames;
    on_own = on_own;
  }

  -- where none takes longer, none ends later, and the rest follows of when each starts and has to end
  module _ (none : IsNoneLonger i.processes v.processes) where
    no_later : (p : ℕ) → end_of j other p ≤ end_of i plan p
    no_later p = end_no_later i v is plan rounds channels none p

    before_too : (p q : ℕ) → EndsBefore i plan p q ⊎ EndsBefore i plan q p → EndsBefore j other p q ⊎ EndsBefore j other q p
    before_too p q (inl before) = inl (omega (arith, before, no_later p))
    before_too p q (inr after) = inr (omega (arith, after, no_later q))

    apart : Keeps j other Overlaps
    apart p inside q behind within same =
        let all = is.processes.all in
        let nodes = sym (node_same i v is p) ∙ same ∙ node_same i v is q in
        before_too p q (valid.apart p (omega (arith, inside, all)) q behind (omega (arith, within, all)) nodes)

    linked : Keeps j other Links
    linked l inside =
        let old = valid.links (v.link_place l) (is.link_there l inside) in
        rw (is.link l inside) (omega (arith, old, no_later (link_at i (v.link_place l)).before))

    ready : Keeps j other Readiness
    ready m inside =
        let old = valid.ready (v.message_place m) (is.message_there m inside) in
        let sender = ap (end_of i plan) (is.message m inside).sender in
        omega (arith, old, no_later (message_at j m).sender, sender, sent_from_same i v is plan rounds channels alike m inside)

    pub times_by_ends : Keeps j other Releases → Keeps j other Ends → KeepsTimes j other
    times_by_ends released in_time = record { released = released; in_time = in_time; apart = apart; links = linked; ready = ready }

-- an instance that differs in times alone
module _ (i : Instance) (horizon : ℕ) (new : List Process) (differ : DifferInTimes i.processes new) where
  pub timed_variant : IsVariant i (timed i horizon new)
  timed_variant = record {
    processes = differ;
    few_links = omega arith;
    link_there = λ l inside. inside;
    link = λ l inside. refl;
    few_messages = omega arith;
    message_there = λ m inside. inside;
    message = λ m inside. record { name = refl; sender = refl; receivers = refl; bytes = refl; both = λ both. both };
    rising = λ m l less inside. less;
  }

  module _ (plan : Plan) (valid : IsValid i plan) where
    sent_as_before : AreSentAlike (timed i horizon new) plan plan.rounds plan.channels
    sent_as_before = record {
      rounds_many = valid.lengths.rounds;
      channels_many = valid.lengths.channels;
      round = λ m inside. refl;
      channel = λ m inside. refl;
    }

    pub valid_with_times : KeepsTimes (with_times i horizon new) plan → IsValid (with_times i horizon new) plan
    valid_with_times = valid_by_times i (timed i horizon new) timed_variant plan plan.rounds plan.channels sent_as_before valid

    pub times_with_ends : IsNoneLonger i.processes new → Keeps (with_times i horizon new) plan Releases → Keeps (with_times i horizon new) plan Ends
        → KeepsTimes (with_times i horizon new) plan
    times_with_ends = times_by_ends i (timed i horizon new) timed_variant plan plan.rounds plan.channels sent_as_before valid

    pub valid_across : IsNoneLonger i.processes new → Keeps (with_times i horizon new) plan Releases → Keeps (with_times i horizon new) plan Ends
        → IsValid (with_times i horizon new) plan
    valid_across none released in_time = valid_with_times (times_with_ends none released in_time)

-- a valid plan keeps all times of its own instance
pub own_times : (i : Instance) (plan : Plan) → IsValid i plan → KeepsTimes i plan
own_times i plan valid = record { released = valid.released; in_time = valid.in_time; apart = valid.apart; links = valid.links; ready = valid.ready }
