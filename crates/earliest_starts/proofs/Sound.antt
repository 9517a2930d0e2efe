-- What holds of each valid plan of a complete choice, and why a clash leaves none.
use Rattle.std.proofs.Common.{◌≡◌, ℕ, zero, suc, ◌+◌, ◌-◌, ◌<◌, ◌≤◌, ◌⊎◌, List, [], length, slice_index, unwrap_or, Option, None, Some, IsSome, arith, inl, inr, refl, sym, ap, ◌∙◌, add-one}
use Rattle.std.proofs.lemmas.Bool.{false≢true}
use Rattle.std.proofs.lemmas.List.{get_or-map, length-map}
use Rattle.std.proofs.lemmas.Grind.{same_number_lists, get_or_default_zero}
use Rattle.ttp_model.specs.declared.plan.Plan.{Plan}
use Rattle.ttp_model.specs.declared.error.Place.TheVariants.{AtProcess, AtLink}
use Rattle.ttp_model.specs.Instance.{Instance, process_at, message_at}
use Rattle.ttp_model.specs.Rules.{IsInstance}
use Rattle.ttp_model.specs.Plans.{IsValid, start_of, end_of, round_of, sent_from, sent_until, channel_of, bytes_on, load_on}
use Rattle.ttp_model.specs.Totals.{total}
use Rattle.ttp_model.proofs.ValidPlans.{frames_fit_lem}
use Rattle.ttp_model.proofs.Totals.{total_same}
use Rattle.tt_choice.specs.Choice.{Choice, fixed_cap, fixed_channel, least_round, IsFixedTo, IsIn, IsChoice, IsComplete}
use Rattle.earliest_starts.specs.declared.clash.Clash.{Clash}
use Rattle.earliest_starts.specs.declared.clash.Clash.TheVariants.{Cycle, Round, Window, Frame}
use Rattle.earliest_starts.specs.Fixed.{fixed_caps, fixed_channels, plan_of, sends_from, sends_until, GoesAhead, fixed_bytes}
use Rattle.earliest_starts.specs.Answers.{IsBarren}
use Rattle.earliest_starts.specs.Clashes.{WaitsUntil, released, arrived, after, IsWaitingRing, IsClash}

-- what is fixed at a node
pub fixed_at : (c : Choice) (n : ℕ) → n < length c.fixed → slice_index (fixed_caps c) n ≡ unwrap_or (fixed_cap c n) 0
fixed_at c n h = get_or-map (λ (fixed : Option ℕ). unwrap_or fixed 0) c.fixed n None 0 h

pub length-fixed_caps : (c : Choice) → length (fixed_caps c) ≡ length c.fixed
length-fixed_caps c = length-map c.fixed (λ (fixed : Option ℕ). unwrap_or fixed 0)

-- and for a message
pub channel_at : (c : Choice) (m : ℕ) → m < length c.channels → channel_of (plan_of c []) m ≡ unwrap_or (fixed_channel c m) 0
channel_at c m h = get_or-map (λ (fixed : Option ℕ). unwrap_or fixed 0) c.channels m None 0 h

pub length-fixed_channels : (c : Choice) → length (fixed_channels c) ≡ length c.channels
length-fixed_channels c = length-map c.channels (λ (fixed : Option ℕ). unwrap_or fixed 0)

is_fixed : (o : Option ℕ) (number : ℕ) → IsSome o → IsFixedTo o number → number ≡ unwrap_or o 0
is_fixed None number some is = absurd (false≢true some)
is_fixed (Some fixed) number some is = is

module _ (i : Instance) (c : Choice) (plan : Plan) (w : IsInstance i) (ok : IsChoice i c) (done : IsComplete i c) (v : IsValid i plan) (is : IsIn i c plan) where
  pub order_is : plan.order ≡ c.prefix
  order_is = same_number_lists plan.order c.prefix (v.lengths.order ∙ sym done.placed) (λ k h. is.prefix k (omega (arith, h, v.lengths.order, done.placed)))

  pub caps_is : plan.caps ≡ fixed_caps c
  caps_is = same_number_lists plan.caps (fixed_caps c) (v.lengths.capacities ∙ sym (length-fixed_caps c ∙ ok.fixed_length)) (λ n h.
      let inside : n < length i.nodes = omega (arith, h, v.lengths.capacities) in
      is_fixed (fixed_cap c n) (slice_index plan.caps n) (done.fixed n inside) (is.fixed n inside) ∙ sym (fixed_at c n (omega (arith, inside, ok.fixed_length))))

  pub round_is : (m : ℕ) → m < length i.messages → round_of plan m ≡ least_round c m
  round_is m h = omega (arith, (is.ranges m h).0, (is.ranges m h).1, done.rounds m h)

  channel_is : (m : ℕ) → m < length i.messages → channel_of plan m ≡ channel_of (plan_of c []) m
  channel_is m h =
      is_fixed (fixed_channel c m) (channel_of plan m) (done.channels m h) (is.channels m h)
      ∙ sym (channel_at c m (omega (arith, h, ok.channels_length)))

  from_is : (m : ℕ) → m < length i.messages → sent_from i plan m ≡ sends_from i c m
  from_is m h = rw (order_is, caps_is, round_is m h) refl

  until_is : (m : ℕ) → m < length i.messages → sent_until i plan m ≡ sends_until i c m
  until_is m h = rw (order_is, caps_is, round_is m h) refl

  -- who goes ahead ends before the other starts
  pub ahead_ends : (p q : ℕ) → GoesAhead i c p q → end_of i plan p ≤ start_of plan q
  ahead_ends p q (inl chosen) = is.pairs p q chosen
  ahead_ends p q (inr link) = rw (← link.before, ← link.after) (v.links link.link link.is_there)

  -- a chain of reasons holds
  pub waits_le : (p time : ℕ) → WaitsUntil i c p time → time ≤ start_of plan p
  waits_le _ _ (released p h) = v.released p h
  waits_le _ _ (arrived m p h has) =
      let xs = (message_at i m).receivers in
      let here : slice_index xs has.0 ≡ p = sym (get_or_default_zero xs has.0 p has.1) ∙ has.2 in
      omega (arith, v.arrived m h has.0 has.1, until_is m h, ap (start_of plan) here)
  waits_le _ _ (after q p before waits ahead) = omega (arith, waits_le q before waits, ahead_ends q p ahead)

  -- and it takes time
  ahead_starts : (p q : ℕ) → GoesAhead i c p q → start_of plan p < start_of plan q
  ahead_starts p q ahead = omega (arith, ahead_ends p q ahead, (w.ranges (AtProcess p) (inside ahead)).wcet_least)
    where
      inside : GoesAhead i c p q → p < length i.processes
      inside (inl chosen) = (ok.pairs p q chosen).first
      inside (inr link) = rw (← link.before) (w.indices (AtLink link.link) link.is_there).0

  ring_rises : (ps : List ℕ) → IsWaitingRing i c ps → (k : ℕ) → k < length ps → start_of plan (slice_index ps 0) ≤ start_of plan (slice_index ps k)
  ring_rises ps ring zero h = omega arith
  ring_rises ps ring (suc k) h =
      let step = rw add-one at (ring.each k (omega (arith, h))) in
      omega (arith, ring_rises ps ring k (omega arith), ahead_starts (slice_index ps k) (slice_index ps (suc k)) step)

  bytes_are : (n r k : ℕ) → load_on i plan n r k ≡ total (fixed_bytes i c n r k) (length i.messages)
  bytes_are n r k = total_same (bytes_on i plan n r k) (fixed_bytes i c n r k) (length i.messages) (λ m h. rw (round_is m h, channel_is m h) refl)

  pub no_clash : (clash : Clash) → IsClash i c clash → ⊥
  no_clash (Cycle ps) ring =
      let last = ring_rises ps ring (length ps - 1) (omega (arith, ring.two)) in
      let close = ahead_starts (slice_index ps (length ps - 1)) (slice_index ps 0) ring.closes in
      absurd (omega (arith, last, close))
  no_clash (Round m) misses = absurd (omega (arith, misses.late, waits_le (message_at i m).sender misses.time misses.waits, v.ready m misses.message, from_is m misses.message))
  no_clash (Window p) misses = late misses.late
    where
      late : ((process_at i p).deadline < misses.time + (process_at i p).wcet) ⊎ (i.cluster.horizon < misses.time + (process_at i p).wcet) → ⊥
      late (inl over) = absurd (omega (arith, over, waits_le p misses.time misses.waits, (v.in_time p misses.process).0))
      late (inr over) = absurd (omega (arith, over, waits_le p misses.time misses.waits, (v.in_time p misses.process).1))
  no_clash (Frame n r k) over = absurd (omega (arith, over.over, frames_fit_lem i plan n r k v over.channel, bytes_are n r k, ap (λ caps. slice_index caps n) caps_is))

-- a clash leaves no valid plan
pub IsBarren-clash : (i : Instance) (c : Choice) (clash : Clash) → IsInstance i → IsChoice i c → IsComplete i c → IsClash i c clash → IsBarren i c
IsBarren-clash i c clash w ok done is = λ plan chosen valid. no_clash i c plan w ok done valid chosen clash is
