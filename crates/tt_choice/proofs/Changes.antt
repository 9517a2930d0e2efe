-- A choice that is changed by one decision is still one of its instance.
use Rattle.std.proofs.Common.{◌≡◌, ℕ, ◌+◌, ◌*◌, ◌<◌, ◌≤◌, [], ◌∷◌, ◌++◌, length, slice_index, true, IsTrue, None, Some, arith, inl, inr, subst, sym, ◌∙◌, get_or-set_other, get_or-set_same, length-set}
use Rattle.std.proofs.lemmas.Bool.{cases_eq, both_ways}
use Rattle.std.proofs.lemmas.List.Elements.{Contains-get_or}
use Rattle.ttp_model.specs.Instance.{Instance, node_at}
use Rattle.ttp_model.specs.Limits.{both_channels}
use Rattle.ttp_model.specs.Plans.{MayBeOn}
use Rattle.tt_choice.specs.Choice.{Choice, fixed_cap, fixed_channel, is_before, greatest_round, IsOption, IsChannel, ArePair, IsChoice}
use Rattle.tt_choice.specs.Branches.{place_next, fix_option, order_pair, at_most, at_least, fix_channel, IsUnplaced, IsUnorderedPair, CutsRange}
use Rattle.tt_choice.proofs.Extend.{AreNodes, one_more, off, length_le}
use Rattle.tt_choice.proofs.Pairs.{pair_then, order_pair_left}

-- a pair of the new choice is the new one or an old one
new_pairs : (i : Instance) (c : Choice) (p q : ℕ) → IsChoice i c → ArePair i p q → (j k : ℕ) → IsTrue (is_before (order_pair c p q) j k) → ArePair i j k
new_pairs i c p q ok pair j k holds = elim (cases_eq j p) [
  | inr row ↦ ok.pairs j k (sym (pair_then i c p q j k ok pair (inl row)) ∙ holds)
  | inl first ↦ elim (cases_eq k q) [
    | inr column ↦ ok.pairs j k (sym (pair_then i c p q j k ok pair (inr column)) ∙ holds)
    | inl second ↦ rw (first, second) pair
  ]
]

-- where a node is placed
pub IsChoice-place : (i : Instance) (c : Choice) (n : ℕ) → IsChoice i c → IsUnplaced i c n → IsChoice i (place_next c n)
unfolding AreNodes
IsChoice-place i c n ok is =
    let more = one_more (length i.nodes) c.prefix n (ok.nodes, ok.once) is.node (off n c.prefix is.new) in
    record {
      few = length_le (length i.nodes) (c.prefix ++ n ∷ []) more;
      nodes = more.0;
      once = more.1;
      fixed_length = ok.fixed_length;
      options = ok.options;
      processes = ok.processes;
      tests = ok.tests;
      pairs = ok.pairs;
      unordered = ok.unordered;
      lo_length = ok.lo_length;
      hi_length = ok.hi_length;
      ranges = ok.ranges;
      within = ok.within;
      channels_length = ok.channels_length;
      channels = ok.channels;
    }

-- where a capacity is fixed
pub IsChoice-fix : (i : Instance) (c : Choice) (n k : ℕ) → IsChoice i c → n < length i.nodes → k < length (node_at i n).capacities → IsChoice i (fix_option i c n k)
IsChoice-fix i c n k ok inside option = record {
  few = ok.few;
  nodes = ok.nodes;
  once = ok.once;
  fixed_length = length-set c.fixed n (Some (slice_index (node_at i n).capacities k)) ∙ ok.fixed_length;
  options = options;
  processes = ok.processes;
  tests = ok.tests;
  pairs = ok.pairs;
  unordered = ok.unordered;
  lo_length = ok.lo_length;
  hi_length = ok.hi_length;
  ranges = ok.ranges;
  within = ok.within;
  channels_length = ok.channels_length;
  channels = ok.channels;
}
  where
    options : (m : ℕ) → m < length i.nodes → IsOption i m (fixed_cap (fix_option i c n k) m)
    options m h = elim (cases_eq m n) [
      | inl same ↦
          let here : n < length c.fixed = omega (arith, inside, ok.fixed_length) in
          rw (same, get_or-set_same c.fixed n (Some (slice_index (node_at i n).capacities k)) None here) (Contains-get_or (node_at i n).capacities k 0 option)
      | inr other ↦ rw (get_or-set_other c.fixed n m (Some (slice_index (node_at i n).capacities k)) None other) (ok.options m h)
    ]

-- where a pair is ordered
pub IsChoice-order : (i : Instance) (c : Choice) (p q : ℕ) → IsChoice i c → IsUnorderedPair i c p q → IsChoice i (order_pair c p q)
IsChoice-order i c p q ok is = record {
  few = ok.few;
  nodes = ok.nodes;
  once = ok.once;
  fixed_length = ok.fixed_length;
  options = ok.options;
  processes = ok.processes;
  tests = length-set c.before.tests (p * c.before.processes + q) true ∙ ok.tests;
  pairs = new_pairs i c p q ok is.pair;
  unordered = omega (arith, order_pair_left i c p q ok is, ok.unordered);
  lo_length = ok.lo_length;
  hi_length = ok.hi_length;
  ranges = ok.ranges;
  within = ok.within;
  channels_length = ok.channels_length;
  channels = ok.channels;
}

-- where a range ends sooner
pub IsChoice-at_most : (i : Instance) (c : Choice) (m r : ℕ) → IsChoice i c → CutsRange i c m r → IsChoice i (at_most c m r)
IsChoice-at_most i c m r ok is = record {
  few = ok.few;
  nodes = ok.nodes;
  once = ok.once;
  fixed_length = ok.fixed_length;
  options = ok.options;
  processes = ok.processes;
  tests = ok.tests;
  pairs = ok.pairs;
  unordered = ok.unordered;
  lo_length = ok.lo_length;
  hi_length = length-set c.hi m r ∙ ok.hi_length;
  ranges = λ k h. elim (cases_eq k m) [
    | inl same ↦ rw (same, get_or-set_same c.hi m r 0 (omega (arith, is.message, ok.hi_length))) is.from
    | inr other ↦ rw (get_or-set_other c.hi m k r 0 other) (ok.ranges k h)
  ];
  within = λ k h. elim (cases_eq k m) [
    | inl same ↦ rw (same, get_or-set_same c.hi m r 0 (omega (arith, is.message, ok.hi_length))) (omega (arith, is.below, ok.within m is.message))
    | inr other ↦ rw (get_or-set_other c.hi m k r 0 other) (ok.within k h)
  ];
  channels_length = ok.channels_length;
  channels = ok.channels;
}

-- where it begins later
pub IsChoice-at_least : (i : Instance) (c : Choice) (m r : ℕ) → IsChoice i c → m < length i.messages → r ≤ greatest_round c m → IsChoice i (at_least c m r)
IsChoice-at_least i c m r ok inside to = record {
  few = ok.few;
  nodes = ok.nodes;
  once = ok.once;
  fixed_length = ok.fixed_length;
  options = ok.options;
  processes = ok.processes;
  tests = ok.tests;
  pairs = ok.pairs;
  unordered = ok.unordered;
  lo_length = length-set c.lo m r ∙ ok.lo_length;
  hi_length = ok.hi_length;
  ranges = λ k h. elim (cases_eq k m) [
    | inl same ↦ rw (same, get_or-set_same c.lo m r 0 (omega (arith, inside, ok.lo_length))) to
    | inr other ↦ rw (get_or-set_other c.lo m k r 0 other) (ok.ranges k h)
  ];
  within = ok.within;
  channels_length = ok.channels_length;
  channels = ok.channels;
}

-- a channel that is free may be any
free_may_be : (i : Instance) (m k : ℕ) → IsChannel i m None → k ≤ both_channels → MayBeOn i m k
free_may_be i m k free known =
    let two : i.cluster.channels ≡ 2 = free.0 in
    record {
      known = known;
      alone = λ one. absurd (omega (arith, one, two));
      both = λ twice. absurd (both_ways _ free.1 twice);
    }

-- where a channel is fixed
pub IsChoice-fix_channel : (i : Instance) (c : Choice) (m k : ℕ) → IsChoice i c → m < length i.messages → fixed_channel c m ≡ None → k ≤ both_channels → IsChoice i (fix_channel c m k)
IsChoice-fix_channel i c m k ok inside none known = record {
  few = ok.few;
  nodes = ok.nodes;
  once = ok.once;
  fixed_length = ok.fixed_length;
  options = ok.options;
  processes = ok.processes;
  tests = ok.tests;
  pairs = ok.pairs;
  unordered = ok.unordered;
  lo_length = ok.lo_length;
  hi_length = ok.hi_length;
  ranges = ok.ranges;
  within = ok.within;
  channels_length = length-set c.channels m (Some k) ∙ ok.channels_length;
  channels = channels;
}
  where
    channels : (n : ℕ) → n < length i.messages → IsChannel i n (fixed_channel (fix_channel c m k) n)
    channels n h = elim (cases_eq n m) [
      | inl same ↦
          let here : m < length c.channels = omega (arith, inside, ok.channels_length) in
          rw (same, get_or-set_same c.channels m (Some k) None here) (free_may_be i m k (subst (IsChannel i m) none (ok.channels m inside)) known)
      | inr other ↦ rw (get_or-set_other c.channels m n (Some k) None other) (ok.channels n h)
    ]
