-- A choice is complete where nothing is left to choose.
use Rattle.std.proofs.Common.{◌≡◌, ℕ, ◌<◌, ◌==◌, length, IsSome, arith, inl, inr, sym, ◌∙◌}
use Rattle.std.proofs.lemmas.Bool.{cases_Bool, eqb-true, or_left, or_right}
use Rattle.ttp_model.specs.Instance.{Instance, node_of}
use Rattle.ttp_model.proofs.Totals.{total_zero, total_none}
use Rattle.tt_choice.specs.Choice.{Choice, fixed_cap, fixed_channel, is_before, least_round, greatest_round, unordered_below, unordered_pairs, IsOrdered, IsChoice, IsComplete}
use Rattle.tt_choice.proofs.Pairs.{count_of, free_count, ordered_count, strange_count}

-- no pair is left
ordered_from : (i : Instance) (c : Choice) → unordered_pairs i c ≡ 0 → (p q : ℕ) → q < p → p < length i.processes → IsOrdered i c p q
unfolding count_of
ordered_from i c none p q below inside same =
    let row = total_zero (unordered_below i c) (length i.processes) none p inside in
    let entry = total_zero (count_of i c p) p row q below in
    elim (cases_Bool (is_before c p q)) [
      | inl first ↦ inl first
      | inr not_first ↦ elim (cases_Bool (is_before c q p)) [
        | inl second ↦ inr second
        | inr not_second ↦ absurd (omega (arith, entry, free_count i c p q same not_first not_second))
      ]
    ]

none_from : (i : Instance) (c : Choice) → ((p q : ℕ) → q < p → p < length i.processes → IsOrdered i c p q) → unordered_pairs i c ≡ 0
unfolding count_of
none_from i c all =
    total_none (unordered_below i c) (length i.processes) (λ p inside. total_none (count_of i c p) p (λ q below. entry p q (all p q below inside)))
  where
    entry : (p q : ℕ) → IsOrdered i c p q → count_of i c p q ≡ 0
    entry p q ordered = elim (cases_Bool (node_of i p == node_of i q)) [
      | inr apart ↦ strange_count i c p q apart
      | inl same ↦ elim (ordered (eqb-true _ _ same)) [
        | inl first ↦ ordered_count i c p q (or_left _ _ first)
        | inr second ↦ ordered_count i c p q (or_right _ _ second)
      ]
    ]

pub IsComplete-from : (i : Instance) (c : Choice) → IsChoice i c → length c.prefix ≡ length i.nodes → c.unordered ≡ 0
    → ((n : ℕ) → n < length c.fixed → IsSome (fixed_cap c n)) → ((m : ℕ) → m < length c.channels → IsSome (fixed_channel c m))
    → ((m : ℕ) → m < length c.hi → least_round c m ≡ greatest_round c m) → IsComplete i c
IsComplete-from i c ok placed none fixed channels rounds = record {
  placed = placed;
  fixed = λ n h. fixed n (omega (arith, h, ok.fixed_length));
  ordered = ordered_from i c (sym ok.unordered ∙ none);
  rounds = λ m h. rounds m (omega (arith, h, ok.hi_length));
  channels = λ m h. channels m (omega (arith, h, ok.channels_length));
}

pub unordered-IsComplete : (i : Instance) (c : Choice) → IsChoice i c → IsComplete i c → c.unordered ≡ 0
unordered-IsComplete i c ok is = ok.unordered ∙ none_from i c is.ordered
