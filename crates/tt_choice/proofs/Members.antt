-- Which plans are in a choice after one more decision: those of the old one that agree with it.
use Rattle.std.proofs.Common.{◌≡◌, ◌≢◌, ℕ, ◌+◌, ◌<◌, ◌≤◌, ◌↔◌, [], ◌∷◌, ◌++◌, length, length-append, slice_index, IsTrue, Option, None, Some, arith, inl, inr, refl, sym, ap, ◌∙◌, get_or-set_other, get_or-set_same}
use Rattle.std.proofs.lemmas.Bool.{cases_eq, cases_lt}
use Rattle.ttp_model.specs.declared.plan.Plan.{Plan}
use Rattle.ttp_model.specs.Instance.{Instance, node_at}
use Rattle.ttp_model.specs.Plans.{EndsBefore, channel_of, round_of}
use Rattle.tt_choice.specs.Choice.{Choice, fixed_cap, fixed_channel, is_before, least_round, greatest_round, IsIn, IsChoice}
use Rattle.tt_choice.specs.Branches.{place_next, fix_option, order_pair, at_most, at_least, fix_channel, IsUnorderedPair}
use Rattle.tt_choice.proofs.Extend.{first_part, last_part}
use Rattle.tt_choice.proofs.Pairs.{pair_now, pair_then}

pub IsIn-place : (i : Instance) (c : Choice) (plan : Plan) (n : ℕ) → IsIn i (place_next c n) plan ↔ (IsIn i c plan × (slice_index plan.order (length c.prefix) ≡ n))
IsIn-place i c plan n = (old, new)
  where
    long : length (c.prefix ++ n ∷ []) ≡ length c.prefix + 1
    long = length-append c.prefix (n ∷ [])

    old : IsIn i (place_next c n) plan → IsIn i c plan × (slice_index plan.order (length c.prefix) ≡ n)
    old is =
        let last = is.prefix (length c.prefix) (omega (arith, long)) in (
          record {
            lengths = is.lengths;
            prefix = λ k h. is.prefix k (omega (arith, long, h)) ∙ first_part c.prefix (n ∷ []) k h;
            fixed = is.fixed;
            pairs = is.pairs;
            ranges = is.ranges;
            channels = is.channels;
          },
          last ∙ last_part c.prefix n (length c.prefix) refl,
        )

    new : IsIn i c plan × (slice_index plan.order (length c.prefix) ≡ n) → IsIn i (place_next c n) plan
    new is = record {
      lengths = is.0.lengths;
      prefix = λ k h. elim (cases_lt k (length c.prefix)) [
        | inl early ↦ is.0.prefix k early ∙ sym (first_part c.prefix (n ∷ []) k early)
        | inr end ↦
            let here : k ≡ length c.prefix = omega (arith, end, h, long) in
            ap (slice_index plan.order) here ∙ is.1 ∙ sym (last_part c.prefix n k here)
      ];
      fixed = is.0.fixed;
      pairs = is.0.pairs;
      ranges = is.0.ranges;
      channels = is.0.channels;
    }

pub IsIn-fix : (i : Instance) (c : Choice) (plan : Plan) (n k : ℕ) → IsChoice i c → n < length i.nodes → fixed_cap c n ≡ None → IsIn i (fix_option i c n k) plan ↔ (IsIn i c plan × (slice_index plan.caps n ≡ slice_index (node_at i n).capacities k))
IsIn-fix i c plan n k ok inside none = (old, new)
  where
    option : Option ℕ
    option = Some (slice_index (node_at i n).capacities k)

    here : n < length c.fixed
    here = omega (arith, inside, ok.fixed_length)

    now_fixed : fixed_cap (fix_option i c n k) n ≡ Some (slice_index (node_at i n).capacities k)
    now_fixed = get_or-set_same c.fixed n (Some (slice_index (node_at i n).capacities k)) None here

    others : (m : ℕ) → m ≢ n → fixed_cap (fix_option i c n k) m ≡ fixed_cap c m
    others m differ = get_or-set_other c.fixed n m (Some (slice_index (node_at i n).capacities k)) None differ

    -- a plan of the new choice has the capacity, and was there before
    old : IsIn i (fix_option i c n k) plan → IsIn i c plan × (slice_index plan.caps n ≡ slice_index (node_at i n).capacities k)
    old is =
        let value = rw now_fixed at (is.fixed n inside) in (
          record {
            lengths = is.lengths;
            prefix = is.prefix;
            fixed = λ m h. elim (cases_eq m n) [
              | inl same ↦ rw (same, none) tt
              | inr differ ↦ rw (← others m differ) (is.fixed m h)
            ];
            pairs = is.pairs;
            ranges = is.ranges;
            channels = is.channels;
          },
          value,
        )

    new : IsIn i c plan × (slice_index plan.caps n ≡ slice_index (node_at i n).capacities k) → IsIn i (fix_option i c n k) plan
    new is = record {
      lengths = is.0.lengths;
      prefix = is.0.prefix;
      fixed = λ m h. elim (cases_eq m n) [
        | inl same ↦ rw (same, now_fixed) is.1
        | inr differ ↦ rw (others m differ) (is.0.fixed m h)
      ];
      pairs = is.0.pairs;
      ranges = is.0.ranges;
      channels = is.0.channels;
    }

pub IsIn-order : (i : Instance) (c : Choice) (plan : Plan) (p q : ℕ) → IsChoice i c → IsUnorderedPair i c p q → IsIn i (order_pair c p q) plan ↔ (IsIn i c plan × EndsBefore i plan p q)
IsIn-order i c plan p q ok is = (old, new)
  where
    kept : (j k : ℕ) → IsTrue (is_before c j k) → IsTrue (is_before (order_pair c p q) j k)
    kept j k holds = elim (cases_eq j p) [
      | inr row ↦ pair_then i c p q j k ok is.pair (inl row) ∙ holds
      | inl first ↦ elim (cases_eq k q) [
        | inr column ↦ pair_then i c p q j k ok is.pair (inr column) ∙ holds
        | inl second ↦ rw (first, second) (pair_now i c p q ok is.pair)
      ]
    ]

    old : IsIn i (order_pair c p q) plan → IsIn i c plan × EndsBefore i plan p q
    old v = (
      record {
        lengths = v.lengths;
        prefix = v.prefix;
        fixed = v.fixed;
        pairs = λ j k holds. v.pairs j k (kept j k holds);
        ranges = v.ranges;
        channels = v.channels;
      },
      v.pairs p q (pair_now i c p q ok is.pair),
    )

    new : IsIn i c plan × EndsBefore i plan p q → IsIn i (order_pair c p q) plan
    new v = record {
      lengths = v.0.lengths;
      prefix = v.0.prefix;
      fixed = v.0.fixed;
      pairs = λ j k holds. elim (cases_eq j p) [
        | inr row ↦ v.0.pairs j k (sym (pair_then i c p q j k ok is.pair (inl row)) ∙ holds)
        | inl first ↦ elim (cases_eq k q) [
          | inr column ↦ v.0.pairs j k (sym (pair_then i c p q j k ok is.pair (inr column)) ∙ holds)
          | inl second ↦ rw (first, second) v.1
        ]
      ];
      ranges = v.0.ranges;
      channels = v.0.channels;
    }

pub IsIn-at_most : (i : Instance) (c : Choice) (plan : Plan) (m r : ℕ) → IsChoice i c → m < length i.messages → r < greatest_round c m → IsIn i (at_most c m r) plan ↔ (IsIn i c plan × (round_of plan m ≤ r))
IsIn-at_most i c plan m r ok inside below = (old, new)
  where
    here : greatest_round (at_most c m r) m ≡ r
    here = get_or-set_same c.hi m r 0 (omega (arith, inside, ok.hi_length))

    others : (k : ℕ) → k ≢ m → greatest_round (at_most c m r) k ≡ greatest_round c k
    others k differ = get_or-set_other c.hi m k r 0 differ

    old : IsIn i (at_most c m r) plan → IsIn i c plan × (round_of plan m ≤ r)
    old is = (
      record {
        lengths = is.lengths;
        prefix = is.prefix;
        fixed = is.fixed;
        pairs = is.pairs;
        ranges = λ k h. elim (cases_eq k m) [
          | inl same ↦ rw same ((is.ranges m inside).0, omega (arith, (is.ranges m inside).1, here, below))
          | inr differ ↦ ((is.ranges k h).0, omega (arith, (is.ranges k h).1, others k differ))
        ];
        channels = is.channels;
      },
      omega (arith, (is.ranges m inside).1, here),
    )

    new : IsIn i c plan × (round_of plan m ≤ r) → IsIn i (at_most c m r) plan
    new is = record {
      lengths = is.0.lengths;
      prefix = is.0.prefix;
      fixed = is.0.fixed;
      pairs = is.0.pairs;
      ranges = λ k h. elim (cases_eq k m) [
        | inl same ↦ rw same ((is.0.ranges m inside).0, omega (arith, is.1, here))
        | inr differ ↦ ((is.0.ranges k h).0, omega (arith, (is.0.ranges k h).1, others k differ))
      ];
      channels = is.0.channels;
    }

pub IsIn-at_least : (i : Instance) (c : Choice) (plan : Plan) (m r : ℕ) → IsChoice i c → m < length i.messages → least_round c m < r → IsIn i (at_least c m r) plan ↔ (IsIn i c plan × (r ≤ round_of plan m))
IsIn-at_least i c plan m r ok inside above = (old, new)
  where
    here : least_round (at_least c m r) m ≡ r
    here = get_or-set_same c.lo m r 0 (omega (arith, inside, ok.lo_length))

    others : (k : ℕ) → k ≢ m → least_round (at_least c m r) k ≡ least_round c k
    others k differ = get_or-set_other c.lo m k r 0 differ

    old : IsIn i (at_least c m r) plan → IsIn i c plan × (r ≤ round_of plan m)
    old is = (
      record {
        lengths = is.lengths;
        prefix = is.prefix;
        fixed = is.fixed;
        pairs = is.pairs;
        ranges = λ k h. elim (cases_eq k m) [
          | inl same ↦ rw same (omega (arith, (is.ranges m inside).0, here, above), (is.ranges m inside).1)
          | inr differ ↦ (omega (arith, (is.ranges k h).0, others k differ), (is.ranges k h).1)
        ];
        channels = is.channels;
      },
      omega (arith, (is.ranges m inside).0, here),
    )

    new : IsIn i c plan × (r ≤ round_of plan m) → IsIn i (at_least c m r) plan
    new is = record {
      lengths = is.0.lengths;
      prefix = is.0.prefix;
      fixed = is.0.fixed;
      pairs = is.0.pairs;
      ranges = λ k h. elim (cases_eq k m) [
        | inl same ↦ rw same (omega (arith, is.1, here), (is.0.ranges m inside).1)
        | inr differ ↦ (omega (arith, (is.0.ranges k h).0, others k differ), (is.0.ranges k h).1)
      ];
      channels = is.0.channels;
    }

pub IsIn-fix_channel : (i : Instance) (c : Choice) (plan : Plan) (m k : ℕ) → IsChoice i c → m < length i.messages → fixed_channel c m ≡ None → IsIn i (fix_channel c m k) plan ↔ (IsIn i c plan × (channel_of plan m ≡ k))
IsIn-fix_channel i c plan m k ok inside none = (old, new)
  where
    now_fixed : fixed_channel (fix_channel c m k) m ≡ Some k
    now_fixed = get_or-set_same c.channels m (Some k) None (omega (arith, inside, ok.channels_length))

    others : (n : ℕ) → n ≢ m → fixed_channel (fix_channel c m k) n ≡ fixed_channel c n
    others n differ = get_or-set_other c.channels m n (Some k) None differ

    old : IsIn i (fix_channel c m k) plan → IsIn i c plan × (channel_of plan m ≡ k)
    old is =
        let value = rw now_fixed at (is.channels m inside) in (
          record {
            lengths = is.lengths;
            prefix = is.prefix;
            fixed = is.fixed;
            pairs = is.pairs;
            ranges = is.ranges;
            channels = λ n h. elim (cases_eq n m) [
              | inl same ↦ rw (same, none) tt
              | inr differ ↦ rw (← others n differ) (is.channels n h)
            ];
          },
          value,
        )

    new : IsIn i c plan × (channel_of plan m ≡ k) → IsIn i (fix_channel c m k) plan
    new is = record {
      lengths = is.0.lengths;
      prefix = is.0.prefix;
      fixed = is.0.fixed;
      pairs = is.0.pairs;
      ranges = is.0.ranges;
      channels = λ n h. elim (cases_eq n m) [
        | inl same ↦ rw (same, now_fixed) is.1
        | inr differ ↦ rw (others n differ) (is.0.channels n h)
      ];
    }
