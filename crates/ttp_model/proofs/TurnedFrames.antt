-- A frame whose channels are exchanged: who is on one channel alone stays so, and one frame less is turned.
use Rattle.std.proofs.Common.{◌≡◌, ◌≢◌, ℕ, ◌+◌, ◌<◌, ◌≤◌, ◌==◌, ◌&&◌, not, if◌then◌else◌, Bool, true, false, length, slice_index, arith, inl, inr, refl, ap, ap₂, sym, ◌∙◌}
use Rattle.std.specs.List.{position_or_len, range_with_len}
use Rattle.std.proofs.lemmas.Bool.{cases_Bool, cases_eq, cond-true, cond-false, and_parts, and_left, and_right, eq-eqb, eqb-true, ne_eqb, not-true, not-false}
use Rattle.std.proofs.lemmas.List.FromFn.{get_or-range_with_len, get_or-map-range_with_len, length-range_with_len}
use Rattle.std.proofs.lemmas.List.Sums.{position_or_len_is, prefix_len-le-length, prefix_len_passes, prefix_len_stops}
use Rattle.ttp_model.specs.declared.plan.Plan.{Plan}
use Rattle.ttp_model.specs.Limits.{both_channels}
use Rattle.ttp_model.specs.Instance.{Instance, source_of}
use Rattle.ttp_model.specs.Plans.{round_of, channel_of, is_in_frame}
use Rattle.ttp_model.specs.Moves.{is_alone_in, first_alone, leads_turned, other_channel, turned_channel, turned, turned_frames}
use Rattle.ttp_model.proofs.Totals.{total_one_less}

in_range : (n j : ℕ) → j < n → slice_index (range_with_len 0 n) j ≡ j
in_range n j inside = omega (arith, get_or-range_with_len 0 n j 0 inside)

-- where the first number below a count is that passes a test
module _ (p : ℕ → Bool) (n : ℕ) where
  pub first_is : (k : ℕ) → k ≤ n → ((j : ℕ) → j < k → p j ≡ false) → (k < n → p k ≡ true) → position_or_len p (range_with_len 0 n) ≡ k
  first_is k inside none here = position_or_len_is p (range_with_len 0 n) k 0 (omega (arith, inside, length-range_with_len 0 n))
      (λ j below. ap p (in_range n j (omega (arith, below, inside))) ∙ none j below)
      (λ below. ap p (in_range n k (omega (arith, below, length-range_with_len 0 n))) ∙ here (omega (arith, below, length-range_with_len 0 n)))

  none_before_first : (j : ℕ) → j < position_or_len p (range_with_len 0 n) → p j ≡ false
  none_before_first j below =
      let long = prefix_len-le-length (λ x. not (p x)) (range_with_len 0 n) in
      let passes = prefix_len_passes (λ x. not (p x)) (range_with_len 0 n) j 0 below in
      ap p (sym (in_range n j (omega (arith, below, long, length-range_with_len 0 n)))) ∙ not-true _ passes

  first_passes : position_or_len p (range_with_len 0 n) < n → p (position_or_len p (range_with_len 0 n)) ≡ true
  first_passes below =
      let stops = prefix_len_stops (λ x. not (p x)) (range_with_len 0 n) 0 (omega (arith, below, length-range_with_len 0 n)) in
      ap p (sym (in_range n (position_or_len p (range_with_len 0 n)) below)) ∙ not-false _ stops

  first_within : position_or_len p (range_with_len 0 n) ≤ n
  first_within = omega (arith, prefix_len-le-length (λ x. not (p x)) (range_with_len 0 n), length-range_with_len 0 n)

-- two tests that agree below a count have the same first number
same_first : (p q : ℕ → Bool) (n : ℕ) → ((k : ℕ) → k < n → p k ≡ q k) → position_or_len p (range_with_len 0 n) ≡ position_or_len q (range_with_len 0 n)
same_first p q n same =
    first_is p n (position_or_len q (range_with_len 0 n)) (first_within q n)
    (λ j below. same j (omega (arith, below, first_within q n)) ∙ none_before_first q n j below)
    (λ below. same (position_or_len q (range_with_len 0 n)) below ∙ first_passes q n below)

-- a number that is neither channel stays
pub other_of_more : (c : ℕ) → c ≢ 0 → c ≢ 1 → other_channel c ≡ c
other_of_more c not_first not_second = rw (ne_eqb c 0 not_first, ne_eqb c 1 not_second) refl

-- what is on both channels stays so, and nothing else comes to be
both_stays : (c : ℕ) → (other_channel c == both_channels) ≡ (c == both_channels)
both_stays c = elim (cases_eq c 0) [
  | inl first ↦ rw first refl
  | inr not_first ↦ elim (cases_eq c 1) [ inl second ↦ rw second refl | inr not_second ↦ ap (λ k. k == both_channels) (other_of_more c not_first not_second) ]
]

module _ (i : Instance) (plan : Plan) (m : ℕ) where
  pub channel_is : (k : ℕ) → k < length i.messages → channel_of (turned i plan m) k ≡ turned_channel i plan m k
  channel_is k inside = get_or-map-range_with_len (turned_channel i plan m) 0 (length i.messages) k k 0 inside (omega arith)

  -- the channels of the frame are exchanged, and all others stay
  pub channel_there : (k : ℕ) → k < length i.messages → is_in_frame i plan (source_of i m) (round_of plan m) k ≡ true → channel_of (turned i plan m) k ≡ other_channel (channel_of plan k)
  channel_there k inside there = channel_is k inside ∙ cond-true _ (other_channel (channel_of plan k)) (channel_of plan k) there

  pub channel_elsewhere : (k : ℕ) → k < length i.messages → is_in_frame i plan (source_of i m) (round_of plan m) k ≡ false → channel_of (turned i plan m) k ≡ channel_of plan k
  channel_elsewhere k inside elsewhere = channel_is k inside ∙ cond-false _ (other_channel (channel_of plan k)) (channel_of plan k) elsewhere

  same_both : (k : ℕ) → k < length i.messages → (channel_of (turned i plan m) k == both_channels) ≡ (channel_of plan k == both_channels)
  same_both k inside = elim (cases_Bool (is_in_frame i plan (source_of i m) (round_of plan m) k)) [
    | inl there ↦ ap (λ c. c == both_channels) (channel_there k inside there) ∙ both_stays (channel_of plan k)
    | inr elsewhere ↦ ap (λ c. c == both_channels) (channel_elsewhere k inside elsewhere)
  ]

  same_first_alone : (n r : ℕ) → first_alone i (turned i plan m) n r ≡ first_alone i plan n r
  same_first_alone n r = same_first (is_alone_in i (turned i plan m) n r) (is_alone_in i plan n r) (length i.messages)
      (λ k inside. ap (λ b. is_in_frame i plan n r k && not b) (same_both k inside))

  module _ (hm : m < length i.messages) (leads : leads_turned i plan m ≡ true) where
    parts : ((channel_of plan m == 1) ≡ true) × ((first_alone i plan (source_of i m) (round_of plan m) == m) ≡ true)
    parts = and_parts (channel_of plan m == 1) (first_alone i plan (source_of i m) (round_of plan m) == m) leads

    pub is_second : channel_of plan m ≡ 1
    is_second = eqb-true _ _ parts.0

    is_first : first_alone i plan (source_of i m) (round_of plan m) ≡ m
    is_first = eqb-true _ _ parts.1

    in_own_frame : is_in_frame i plan (source_of i m) (round_of plan m) m ≡ true
    in_own_frame = rw (eq-eqb (source_of i m) (source_of i m) refl, eq-eqb (round_of plan m) (round_of plan m) refl) refl

    -- the message leads no turned frame any more
    leads_no_more : leads_turned i (turned i plan m) m ≡ false
    leads_no_more =
        let now : channel_of (turned i plan m) m ≡ 0 = channel_there m hm in_own_frame ∙ ap other_channel is_second in
        and_left (channel_of (turned i plan m) m == 1) (first_alone i (turned i plan m) (source_of i m) (round_of plan m) == m) (ap (λ c. c == 1) now)

    -- any other leads one just where it did: none of its frame did
    leads_as_before : (k : ℕ) → k < length i.messages → k ≢ m → leads_turned i (turned i plan m) k ≡ leads_turned i plan k
    leads_as_before k inside other = elim (cases_Bool (is_in_frame i plan (source_of i m) (round_of plan m) k)) [
      | inl there ↦
          let both = and_parts (source_of i k == source_of i m) (round_of plan k == round_of plan m) there in
          let was : first_alone i plan (source_of i k) (round_of plan k) ≡ m = ap₂ (first_alone i plan) (eqb-true _ _ both.0) (eqb-true _ _ both.1) ∙ is_first in
          let now : first_alone i (turned i plan m) (source_of i k) (round_of plan k) ≡ m = same_first_alone (source_of i k) (round_of plan k) ∙ was in
          and_right (channel_of (turned i plan m) k == 1) _ (ne_eqb _ _ (λ is. other (sym is ∙ now))) ∙ sym (and_right (channel_of plan k == 1) _ (ne_eqb _ _ (λ is. other (sym is ∙ was))))
      | inr elsewhere ↦ ap₂ (λ c first. c == 1 && first == k) (channel_elsewhere k inside elsewhere) (same_first_alone (source_of i k) (round_of plan k))
    ]

    pub one_less_turned : turned_frames i (turned i plan m) + 1 ≡ turned_frames i plan
    one_less_turned = total_one_less (λ k. if leads_turned i (turned i plan m) k then 1 else 0) (λ k. if leads_turned i plan k then 1 else 0) (length i.messages) m hm
        (λ k inside other. ap (λ b. if b then 1 else 0) (leads_as_before k inside other))
        (rw (leads_no_more, leads) refl)
