-- A child leaves less to choose than its choice.
use Rattle.std.proofs.Common.{◌≡◌, ℕ, ◌+◌, ◌-◌, ◌*◌, ◌<◌, ◌≤◌, ◌∷◌, [], length, length-append, slice_index}
use Rattle.std.proofs.Common.{count_by, is_none, Option, None, Some, cond, arith, inl, inr, ap, get_or-set_other, get_or-set_same}
use Rattle.std.proofs.lemmas.Bool.{cases_eq}
use Rattle.std.proofs.lemmas.List.Sums.{sum_by-set}
use Rattle.ttp_model.specs.declared.step.Kind.{Kind}
use Rattle.ttp_model.specs.Instance.{Instance, node_at}
use Rattle.ttp_model.proofs.Totals.{total_le, total_less}
use Rattle.tt_choice.specs.Choice.{Choice, fixed_cap, fixed_channel, least_round, greatest_round, IsChoice}
use Rattle.tt_choice.specs.declared.decision.Decision.{Decision}
use Rattle.tt_choice.specs.declared.decision.Decision.TheVariants as decided
use Rattle.tt_choice.specs.Changes.{choice_after, fix_option, at_most, at_least, fix_channel, CutsRange}
use Rattle.tt_choice.specs.Kinds.{IsOpen, child, decision_of}
use Rattle.tt_choice.specs.Decisions.{CutsFirst}
use Rattle.tt_choice.specs.Sizes.{range_size, size_left, Halves}
use Rattle.tt_choice.proofs.Digits.{half_digits, digits_le}
use Rattle.tt_choice.proofs.Pairs.{order_pair_left}
use Rattle.tt_choice.proofs.Open.{TakesSome, LeavesHalf}
use Rattle.tt_choice.proofs.Rows.{each_takes_some, each_leaves_half}

fewer_free : (i : Instance) (c : Choice) (n k : ℕ) → IsChoice i c → n < length i.nodes → fixed_cap c n ≡ None → count_by is_none (fix_option i c n k).fixed + 1 ≡ count_by is_none c.fixed
fewer_free i c n k ok inside none =
    let was = ap {B = ℕ} (λ (o : Option ℕ). cond (is_none o) 1 0) none in
    let change = sum_by-set (λ (o : Option ℕ). cond (is_none o) 1 0) c.fixed n (Some (slice_index (node_at i n).capacities k)) None (omega (arith, inside, ok.fixed_length)) in
    omega (arith, change, was)

fewer_channels : (i : Instance) (c : Choice) (m k : ℕ) → IsChoice i c → m < length i.messages → fixed_channel c m ≡ None → count_by is_none (fix_channel c m k).channels + 1 ≡ count_by is_none c.channels
fewer_channels i c m k ok inside none =
    let was = ap {B = ℕ} (λ (o : Option ℕ). cond (is_none o) 1 0) none in
    let change = sum_by-set (λ (o : Option ℕ). cond (is_none o) 1 0) c.channels m (Some k) None (omega (arith, inside, ok.channels_length)) in
    omega (arith, change, was)

-- a range that ends sooner, or begins later
shorter_at_most : (i : Instance) (c : Choice) (m r k : ℕ) → IsChoice i c → CutsRange i c m r → range_size (at_most c m r) k ≤ range_size c k
shorter_at_most i c m r k ok is = elim (cases_eq k m) [
  | inl same ↦
      let now = get_or-set_same c.hi m r 0 (omega (arith, is.message, ok.hi_length)) in
      rw (same, now) (digits_le (r - least_round c m) (greatest_round c m - least_round c m) (omega (arith, is.below)))
  | inr differ ↦ let now = get_or-set_other c.hi m k r 0 differ in rw now (omega arith)
]

shorter_at_least : (i : Instance) (c : Choice) (m r k : ℕ) → IsChoice i c → CutsFirst i c m r → range_size (at_least c m r) k ≤ range_size c k
shorter_at_least i c m r k ok is = elim (cases_eq k m) [
  | inl same ↦
      let now = get_or-set_same c.lo m r 0 (omega (arith, is.message, ok.lo_length)) in
      rw (same, now) (digits_le (greatest_round c m - r) (greatest_round c m - least_round c m) (omega (arith, is.above)))
  | inr differ ↦ let now = get_or-set_other c.lo m k r 0 differ in rw now (omega arith)
]

half_at_most : (i : Instance) (c : Choice) (m r : ℕ) → IsChoice i c → CutsRange i c m r → 2 * (r - least_round c m) ≤ greatest_round c m - least_round c m → range_size (at_most c m r) m < range_size c m
half_at_most i c m r ok is half =
    let now = get_or-set_same c.hi m r 0 (omega (arith, is.message, ok.hi_length)) in
    rw now (half_digits (greatest_round c m - least_round c m) (r - least_round c m) (omega (arith, is.from, is.below)) half)

half_at_least : (i : Instance) (c : Choice) (m r : ℕ) → IsChoice i c → CutsFirst i c m r
    → 2 * (greatest_round c m - r) ≤ greatest_round c m - least_round c m → range_size (at_least c m r) m < range_size c m
half_at_least i c m r ok is half =
    let now = get_or-set_same c.lo m r 0 (omega (arith, is.message, ok.lo_length)) in
    rw now (half_digits (greatest_round c m - least_round c m) (greatest_round c m - r) (omega (arith, is.above, is.to)) half)

-- by a decision that takes some of it
size_left-after : (i : Instance) (c : Choice) (d : Decision) → IsChoice i c → TakesSome i c d → LeavesHalf c d
    → size_left i (choice_after i c d) < size_left i c
size_left-after i c (decided.Place n) ok is half = omega (arith, is, length-append c.prefix (n ∷ []))
size_left-after i c (decided.Cap n k) ok is half = omega (arith, fewer_free i c n k ok is.0 is.1)
size_left-after i c (decided.Before p q) ok is half = omega (arith, order_pair_left i c p q ok is)
size_left-after i c (decided.AtMost m r) ok is half =
    let each = λ (j : ℕ) (h : j < length i.messages). shorter_at_most i c m r j ok is in
    let sizes = total_less (range_size (at_most c m r)) (range_size c) (length i.messages) m is.message each (half_at_most i c m r ok is half) in
    omega (arith, sizes)
size_left-after i c (decided.AtLeast m r) ok is half =
    let each = λ (j : ℕ) (h : j < length i.messages). shorter_at_least i c m r j ok is in
    let sizes = total_less (range_size (at_least c m r)) (range_size c) (length i.messages) m is.message each (half_at_least i c m r ok is half) in
    omega (arith, sizes)
size_left-after i c (decided.Channel m k) ok is half = omega (arith, fewer_channels i c m k ok is.message is.free)

-- a round that doesn't halve the range leaves no more than before
size_left-after_le : (i : Instance) (c : Choice) (d : Decision) → IsChoice i c → TakesSome i c d → size_left i (choice_after i c d) ≤ size_left i c
size_left-after_le i c (decided.Place n) ok is = omega (arith, size_left-after i c (decided.Place n) ok is tt)
size_left-after_le i c (decided.Cap n k) ok is = omega (arith, size_left-after i c (decided.Cap n k) ok is tt)
size_left-after_le i c (decided.Before p q) ok is = omega (arith, size_left-after i c (decided.Before p q) ok is tt)
size_left-after_le i c (decided.AtMost m r) ok is =
    let sizes = total_le (range_size (at_most c m r)) (range_size c) (length i.messages) (λ j h. shorter_at_most i c m r j ok is) in
    omega (arith, sizes)
size_left-after_le i c (decided.AtLeast m r) ok is =
    let sizes = total_le (range_size (at_least c m r)) (range_size c) (length i.messages) (λ j h. shorter_at_least i c m r j ok is) in
    omega (arith, sizes)
size_left-after_le i c (decided.Channel m k) ok is = omega (arith, size_left-after i c (decided.Channel m k) ok is tt)

-- and by a branch
pub size_left-child : (i : Instance) (c : Choice) (kind : Kind) (k : ℕ) → IsChoice i c → IsOpen i c kind → Halves c kind
    → size_left i (child i c kind k) < size_left i c
size_left-child i c kind k ok is halves = size_left-after i c (decision_of i c kind k) ok (each_takes_some i c kind k is) (each_leaves_half i c kind k halves)

pub size_left-child_le : (i : Instance) (c : Choice) (kind : Kind) (k : ℕ) → IsChoice i c → IsOpen i c kind → size_left i (child i c kind k) ≤ size_left i c
size_left-child_le i c kind k ok is = size_left-after_le i c (decision_of i c kind k) ok (each_takes_some i c kind k is)
