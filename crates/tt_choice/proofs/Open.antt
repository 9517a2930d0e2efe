-- What is open to decisions: what is beside it, in a choice that decides less, and where nothing is left to choose.
use Rattle.std.proofs.Common.{◌≡◌, ◌≢◌, ℕ, ◌+◌, ◌-◌, ◌*◌, ◌^◌, ◌<◌, ◌≤◌, length, Option}
use Rattle.std.proofs.Common.{None, Some, IsSome, IsTrue, IsFalse, arith, inl, inr, refl, ap, sym, ◌∙◌}
use Rattle.std.proofs.lemmas.Bool.{cases_Bool, cases_order, both_ways}
use Rattle.ttp_model.specs.Instance.{Instance}
use Rattle.ttp_model.specs.declared.error.Place.TheVariants.{AtCluster}
use Rattle.ttp_model.specs.Rules.{IsInstance}
use Rattle.ttp_model.specs.Limits.{both_channels}
use Rattle.tt_choice.specs.declared.decision.Decision.{Decision}
use Rattle.tt_choice.specs.declared.decision.Decision.TheVariants as decided
use Rattle.tt_choice.specs.Choice.{Choice, IsChoice, IsComplete, IsOrdered, fixed_cap, fixed_channel, is_before, least_round, greatest_round}
use Rattle.tt_choice.specs.Changes.{IsUnorderedPair, CutsRange, IsFreeChannel}
use Rattle.tt_choice.specs.Kinds.{IsFreeNode}
use Rattle.tt_choice.specs.Decisions.{CutsFirst, IsFreeOnChannel}
use Rattle.tt_choice.specs.Inside.{IsInside, IsKeptBy}

-- Beside what is open.
pub turned : (i : Instance) (c : Choice) (p q : ℕ) → IsUnorderedPair i c p q → IsUnorderedPair i c q p
turned i c p q is = record {
  pair = record { first = is.pair.second; second = is.pair.first; two = λ same. is.pair.two (sym same); one_node = sym is.pair.one_node };
  not_before = is.not_after;
  not_after = is.not_before;
}

pub cuts_behind : (i : Instance) (c : Choice) (m r : ℕ) → CutsRange i c m r → CutsFirst i c m (r + 1)
cuts_behind i c m r is = record { message = is.message; above = omega (arith, is.from); to = omega (arith, is.below) }

pub next_fits : (i : Instance) (c : Choice) (m r : ℕ) → IsInstance i → IsChoice i c → CutsRange i c m r → r + 1 < 2 ^ 32
next_fits i c m r w ok is =
    let horizon = (w.ranges AtCluster).horizon in
    let within = ok.within m is.message in
    omega (arith, is.below, within, horizon)

-- three children are those of each channel, and of both
pub one_of_three : (i : Instance) (c : Choice) (m k : ℕ) → IsFreeChannel i c m → k < 3 → IsFreeOnChannel i c m k
one_of_three i c m k is below = record { free = is; known = within }
  where
    within : k ≤ both_channels
    within = omega (arith, below)

-- A decision takes something from what is left, and leaves at most half of a range that it cuts.
abbrev pub TakesSome : Instance → Choice → Decision → Type 0
TakesSome i c (decided.Place n) = length c.prefix < length i.nodes
TakesSome i c (decided.Cap n k) = IsFreeNode i c n
TakesSome i c (decided.Before p q) = IsUnorderedPair i c p q
TakesSome i c (decided.AtMost m r) = CutsRange i c m r
TakesSome i c (decided.AtLeast m r) = CutsFirst i c m r
TakesSome i c (decided.Channel m k) = IsFreeChannel i c m

abbrev pub LeavesHalf : Choice → Decision → Type 0
LeavesHalf c (decided.Place n) = Unit {0}
LeavesHalf c (decided.Cap n k) = Unit {0}
LeavesHalf c (decided.Before p q) = Unit {0}
LeavesHalf c (decided.AtMost m r) = 2 * (r - least_round c m) ≤ greatest_round c m - least_round c m
LeavesHalf c (decided.AtLeast m r) = 2 * (greatest_round c m - r) ≤ greatest_round c m - least_round c m
LeavesHalf c (decided.Channel m k) = Unit {0}

-- What is open in a choice is open where less is decided.
count_of : Option ℕ → ℕ
count_of None = 0
count_of (Some x) = 1

some_none : (x : ℕ) → Some x ≢ None
unfolding count_of
some_none x same = let ends = ap count_of same in absurd (omega (arith, ends))

pub none_outside : (one other : Option ℕ) → IsKeptBy one other → other ≡ None → one ≡ None
none_outside None other kept none = refl
none_outside (Some fixed) other kept none = absurd (some_none fixed (sym kept ∙ none))

not_outside : (c d : Choice) (p q : ℕ) → (IsTrue (is_before d p q) → IsTrue (is_before c p q)) → IsFalse (is_before c p q) → IsFalse (is_before d p q)
not_outside c d p q inside none = elim (cases_Bool (is_before d p q)) [
  | inl is ↦ absurd (both_ways _ none (inside is))
  | inr not ↦ not
]

module _ (i : Instance) (c d : Choice) (inside : IsInside i c d) where
  pub node_outside : (n : ℕ) → IsFreeNode i c n → IsFreeNode i d n
  node_outside n is = (is.0, none_outside (fixed_cap d n) (fixed_cap c n) (inside.fixed n is.0) is.1)

  pub pair_outside : (p q : ℕ) → IsUnorderedPair i c p q → IsUnorderedPair i d p q
  pair_outside p q is = record {
    pair = is.pair;
    not_before = not_outside c d p q (inside.pairs p q) is.not_before;
    not_after = not_outside c d q p (inside.pairs q p) is.not_after;
  }

  pub cut_outside : (m r : ℕ) → CutsRange i c m r → CutsRange i d m r
  cut_outside m r is = record {
    message = is.message;
    from = omega (arith, is.from, inside.from m is.message);
    below = omega (arith, is.below, inside.until m is.message);
  }

  pub channel_outside : (m : ℕ) → IsFreeChannel i c m → IsFreeChannel i d m
  channel_outside m is = record {
    message = is.message;
    free = none_outside (fixed_channel d m) (fixed_channel c m) (inside.channels m is.message) is.free;
  }

-- Where something is open, something is left to choose.
some_is_not_none : (o : Option ℕ) → IsSome o → o ≡ None → ⊥
some_is_not_none None some is = cc
some_is_not_none (Some x) some is = cc

in_one_order : (i : Instance) (c : Choice) (p q : ℕ) → IsUnorderedPair i c p q → IsOrdered i c p q → ⊥
in_one_order i c p q is ordered = elim (ordered is.pair.one_node) [
  | inl first ↦ both_ways _ is.not_before first
  | inr second ↦ both_ways _ is.not_after second
]

module _ (i : Instance) (c : Choice) (all : IsComplete i c) where
  pub no_free_node : (n : ℕ) → IsFreeNode i c n → ⊥
  no_free_node n is = some_is_not_none (fixed_cap c n) (all.fixed n is.0) is.1

  pub no_free_pair : (p q : ℕ) → IsUnorderedPair i c p q → ⊥
  no_free_pair p q is = elim (cases_order p q) [
    | inl same ↦ is.pair.two same
    | inr apart ↦ elim apart [
      | inl below ↦ in_one_order i c q p (turned i c p q is) (all.ordered q p below is.pair.second)
      | inr above ↦ in_one_order i c p q is (all.ordered p q above is.pair.first)
    ]
  ]

  pub no_range : (m r : ℕ) → CutsRange i c m r → ⊥
  no_range m r is = absurd (omega (arith, is.from, is.below, all.rounds m is.message))

  pub no_free_channel : (m : ℕ) → IsFreeChannel i c m → ⊥
  no_free_channel m is = some_is_not_none (fixed_channel c m) (all.channels m is.message) is.free
