-- The plan that is made of settled starts: valid, in the choice, and earliest.
use Rattle.std.proofs.Common.{◌≡◌, ℕ, ◌<◌, ◌≤◌, List, length, slice_index, unwrap_or, Option, None, Some, IsSome, IsTrue, Contains, arith, inl, inr, refl, subst, sym, ◌∙◌}
use Rattle.std.proofs.lemmas.Bool.{false≢true, both_ways}
use Rattle.std.proofs.lemmas.List.Elements.{Contains-get_or}
use Rattle.ttp_model.specs.Lists.{EachBelow}
use Rattle.ttp_model.specs.Instance.{Instance, node_at, message_at, link_at, source_of}
use Rattle.ttp_model.specs.Rules.{IsInstance}
use Rattle.ttp_model.specs.Plans.{HasLengths, IsValid, IsNodeOrder, HasOwnCapacity, HasOwnChannel, MayBeOn, AreApart}
use Rattle.ttp_model.specs.declared.error.Place.TheVariants.{AtProcess, AtLink, AtMessage}
use Rattle.ttp_model.specs.Totals.{total}
use Rattle.tt_choice.specs.Choice.{Choice, fixed_cap, fixed_channel, is_before, least_round, IsFixedTo, IsOption, IsChannel, IsIn, IsChoice, IsComplete}
use Rattle.tt_choice.proofs.Extend.{from_parts, order_of}
use Rattle.earliest_starts.specs.Fixed.{fixed_caps, plan_of, copied_out, sends_from, fixed_bytes}
use Rattle.earliest_starts.specs.Clashes.{MissesSlot}
use Rattle.earliest_starts.specs.Ranks.{TurnsNoLink}
use Rattle.earliest_starts.specs.Starts.{AreFloors, AreSettled}
use Rattle.earliest_starts.specs.Answers.{IsEarliest}
use Rattle.earliest_starts.proofs.Rings.{one_before}
use Rattle.earliest_starts.proofs.Sound.{fixed_at, length-fixed_caps, channel_at, length-fixed_channels, waits_le}

own_option : (i : Instance) (n : ℕ) (o : Option ℕ) → IsSome o → IsOption i n o → Contains (node_at i n).capacities (unwrap_or o 0)
own_option i n None some is = absurd (false≢true some)
own_option i n (Some fixed) some is = is

own_channel : (i : Instance) (m : ℕ) (o : Option ℕ) → IsSome o → IsChannel i m o → MayBeOn i m (unwrap_or o 0)
own_channel i m None some is = absurd (false≢true some)
own_channel i m (Some fixed) some is = is

fixed_to : (o : Option ℕ) → IsFixedTo o (unwrap_or o 0)
fixed_to None = tt
fixed_to (Some fixed) = refl

module _ (i : Instance) (c : Choice) (w : IsInstance i) (ok : IsChoice i c) (done : IsComplete i c) where
  -- the prefix is an order of all nodes
  pub order_fits : IsNodeOrder (length i.nodes) c.prefix
  order_fits = order_of (length i.nodes) c.prefix (from_parts (length i.nodes) c.prefix ok.nodes ok.once) done.placed

  pub caps_fit : length (fixed_caps c) ≡ length i.nodes
  caps_fit = length-fixed_caps c ∙ ok.fixed_length

  pub own_caps : EachBelow (length i.nodes) (HasOwnCapacity i (fixed_caps c))
  own_caps n h = record { own = subst (Contains (node_at i n).capacities) (sym (fixed_at c n (omega (arith, h, ok.fixed_length)))) (own_option i n (fixed_cap c n) (done.fixed n h) (ok.options n h)) }

  -- a link that isn't turned is chosen
  link_chosen : TurnsNoLink i c → (l : ℕ) → l < length i.links → IsTrue (is_before c (link_at i l).before (link_at i l).after)
  link_chosen none l h =
      let ends = w.indices (AtLink l) h in
      let stays = w.links l h in
      elim (one_before i c (link_at i l).before (link_at i l).after done (record { first = ends.0; second = ends.1; two = stays.two; one_node = stays.one_node })) [
        | inl forth ↦ forth
        | inr back ↦ absurd (both_ways _ (none l h) back)
      ]

module _ (i : Instance) (c : Choice) (floors starts : List ℕ) (w : IsInstance i) (ok : IsChoice i c) (done : IsComplete i c) (none : TurnsNoLink i c) (f : AreFloors i c (length i.messages) floors) (all : length starts ≡ length i.processes) (s : AreSettled i c floors starts) where
  apart : (p q : ℕ) → p < q → q < length i.processes → AreApart i (plan_of c starts) p q
  apart p q up h same = elim (one_before i c p q done (record { first = omega (arith, up, h); second = h; two = λ equal. omega (arith, equal, up); one_node = same })) [
    | inl forth ↦ inl ((s q h).after p forth)
    | inr back ↦ inr ((s p (omega (arith, up, h))).after q back)
  ]

  HasLengths-made : HasLengths i (plan_of c starts)
  HasLengths-made = record {
    order = done.placed;
    capacities = caps_fit i c w ok done;
    starts = all;
    rounds = ok.lo_length;
    channels = length-fixed_channels c ∙ ok.channels_length;
  }

  on_own : EachBelow (length i.messages) (HasOwnChannel i (plan_of c starts))
  on_own m h =
      let is = channel_at c m (omega (arith, h, ok.channels_length)) in
      subst (MayBeOn i m) (sym is) (own_channel i m (fixed_channel c m) (done.channels m h) (ok.channels m h))

  -- it keeps all rules where messages are ready and frames fit
  IsValid-made : ((m : ℕ) → m < length i.messages → copied_out i starts m ≤ sends_from i c m)
      → ((m k : ℕ) → m < length i.messages → k < i.cluster.channels → total (fixed_bytes i c (source_of i m) (least_round c m) k) (length i.messages) ≤ slice_index (fixed_caps c) (source_of i m))
      → IsValid i (plan_of c starts)
  IsValid-made ready frames = record {
    lengths = HasLengths-made;
    order = order_fits i c w ok done;
    capacities = own_caps i c w ok done;
    released = λ p h. omega (arith, f.released p h, (s p h).floor);
    in_time = λ p h. ((s p h).deadline, (s p h).horizon);
    apart = λ p h q. apart p q;
    links = λ l h. (s (link_at i l).after (w.indices (AtLink l) h).1).after (link_at i l).before (link_chosen i c w ok done none l h);
    ready = ready;
    arrived = λ m h k inside.
        let q = slice_index (message_at i m).receivers k in
        let there : q < length i.processes = (w.indices (AtMessage m) h).1 k 0 inside in
        omega (arith, f.arrived m q h (Contains-get_or (message_at i m).receivers k 0 inside), (s q there).floor);
    frames = λ m h k within on. frames m k h within;
    on_own = on_own;
  }

  IsIn-made : IsIn i c (plan_of c starts)
  IsIn-made = record {
    lengths = HasLengths-made;
    prefix = λ k h. refl;
    fixed = λ n h. subst (IsFixedTo (fixed_cap c n)) (sym (fixed_at c n (omega (arith, h, ok.fixed_length)))) (fixed_to (fixed_cap c n));
    pairs = λ p q holds. (s q (ok.pairs p q holds).second).after p holds;
    ranges = λ m h. (omega arith, ok.ranges m h);
    channels = λ m h. subst (IsFixedTo (fixed_channel c m)) (sym (channel_at c m (omega (arith, h, ok.channels_length)))) (fixed_to (fixed_channel c m));
  }

  -- no valid plan of the choice starts any process earlier
  IsEarliest-made : IsValid i (plan_of c starts) → IsEarliest i c (plan_of c starts)
  IsEarliest-made valid = record {
    valid = valid;
    chosen = IsIn-made;
    waits = λ p h. (s p h).waits;
    least = λ other v is p h. waits_le i c other w ok done v is p (slice_index starts p) (s p h).waits;
  }

  -- where each message is ready and each frame fits
  pub IsEarliest-found : ((m : ℕ) → m < length i.messages → copied_out i starts m ≤ sends_from i c m)
      → ((n r k : ℕ) → n < length i.nodes → k < i.cluster.channels → total (fixed_bytes i c n r k) (length i.messages) ≤ slice_index (fixed_caps c) n) → IsEarliest i c (plan_of c starts)
  IsEarliest-found ready frames =
      let source = λ (m : ℕ) (h : m < length i.messages). w.indices (AtProcess (message_at i m).sender) (w.indices (AtMessage m) h).0 in
      IsEarliest-made (IsValid-made ready (λ m k h within. frames (source_of i m) (least_round c m) k (source m h) within))

  -- a message that misses its slot
  pub MissesSlot-late : (m : ℕ) → m < length i.messages → sends_from i c m < copied_out i starts m → MissesSlot i c m
  MissesSlot-late m h late = record {
    message = h;
    time = slice_index starts (message_at i m).sender;
    waits = (s (message_at i m).sender (w.indices (AtMessage m) h).0).waits;
    late = late;
  }
