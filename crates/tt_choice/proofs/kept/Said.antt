-- Rounds, orders, capacities and channels are set by decisions.
use Rattle.std.proofs.Common.{◌≡◌, ◌≢◌, ℕ, ◌+◌, ◌-◌, ◌<◌, ◌==◌, ◌&&◌, nat_lt, length, slice_index, Option, None, Some, Bool, false, IsTrue, IsFalse, arith, inl, inr, ap, sym, ◌∙◌, ◌⊎◌, get_or-set_other, get_or-set_same}
use Rattle.std.proofs.lemmas.Bool.{cases_Bool, cases_eq, cases_lt, both_ways, false≢true, and_from, and_parts, eq-eqb, eqb-true, lt-ltb}
use Rattle.ttp_model.specs.Instance.{Instance, node_at}
use Rattle.tt_choice.specs.declared.decision.Decision.{Decision}
use Rattle.tt_choice.specs.declared.decision.Decision.TheVariants as decided
use Rattle.tt_choice.specs.Choice.{Choice, IsChoice, fixed_cap, fixed_channel, is_before, least_round, greatest_round}
use Rattle.tt_choice.specs.Decisions.{choice_after, IsOpenDecision}
use Rattle.tt_choice.specs.Extremes.{cap_least, cap_most, least_option, most_option}
use Rattle.tt_choice.specs.Inside.{IsInside}
use Rattle.tt_choice.specs.Kept.{sets_least, sets_greatest, sets_order, fixes_above, fixes_below, fixes_channel}
use Rattle.tt_choice.proofs.Before.{put_other, put_same}
use Rattle.tt_choice.proofs.kept.Alike.{IsSetBy}
use Rattle.tt_choice.proofs.Open.{none_outside}

never : {P : Type 0} → IsTrue false → P
never is = absurd (false≢true is)

apart : (n m : ℕ) → (n == m) ≡ false → m ≢ n
apart n m not same = both_ways _ not (eq-eqb n m (sym same))

module _ (i : Instance) (m : ℕ) where
  abbrev SameLeast : Choice → Choice → Type 0
  SameLeast c d = least_round c m ≡ least_round d m

  set_least : (c d : Choice) (δ : Decision) → IsChoice i c → IsChoice i d → IsOpenDecision i c δ → IsTrue (sets_least m δ) → SameLeast (choice_after i c δ) (choice_after i d δ)
  set_least c d (decided.Place n) ok also is picked = never picked
  set_least c d (decided.Cap n k) ok also is picked = never picked
  set_least c d (decided.Before p q) ok also is picked = never picked
  set_least c d (decided.AtMost n r) ok also is picked = never picked
  set_least c d (decided.AtLeast n r) ok also is picked =
      let same = eqb-true n m picked in
      rw (← same) (get_or-set_same c.lo n r 0 (omega (arith, is.message, ok.lo_length)) ∙ sym (get_or-set_same d.lo n r 0 (omega (arith, is.message, also.lo_length))))
  set_least c d (decided.Channel n k) ok also is picked = never picked

  left_least : (c d : Choice) (δ : Decision) → IsChoice i c → IsChoice i d → IsOpenDecision i c δ → IsFalse (sets_least m δ) → SameLeast c d → SameLeast (choice_after i c δ) (choice_after i d δ)
  left_least c d (decided.Place n) ok also is other same = same
  left_least c d (decided.Cap n k) ok also is other same = same
  left_least c d (decided.Before p q) ok also is other same = same
  left_least c d (decided.AtMost n r) ok also is other same = same
  left_least c d (decided.AtLeast n r) ok also is other same =
      get_or-set_other c.lo n m r 0 (apart n m other) ∙ same ∙ sym (get_or-set_other d.lo n m r 0 (apart n m other))
  left_least c d (decided.Channel n k) ok also is other same = same

  one_least : (c d : Choice) (δ : Decision) → IsChoice i c → IsInside i c d → IsOpenDecision i c δ → IsFalse (sets_least m δ) → SameLeast c d → SameLeast (choice_after i c δ) d
  one_least c d (decided.Place n) ok inside is other same = same
  one_least c d (decided.Cap n k) ok inside is other same = same
  one_least c d (decided.Before p q) ok inside is other same = same
  one_least c d (decided.AtMost n r) ok inside is other same = same
  one_least c d (decided.AtLeast n r) ok inside is other same = get_or-set_other c.lo n m r 0 (apart n m other) ∙ same
  one_least c d (decided.Channel n k) ok inside is other same = same

  pub least_is_set : IsSetBy i SameLeast (sets_least m)
  least_is_set = record { set = set_least; both = left_least; one = one_least }

  abbrev SameGreatest : Choice → Choice → Type 0
  SameGreatest c d = greatest_round c m ≡ greatest_round d m

  set_greatest : (c d : Choice) (δ : Decision) → IsChoice i c → IsChoice i d → IsOpenDecision i c δ → IsTrue (sets_greatest m δ) → SameGreatest (choice_after i c δ) (choice_after i d δ)
  set_greatest c d (decided.Place n) ok also is picked = never picked
  set_greatest c d (decided.Cap n k) ok also is picked = never picked
  set_greatest c d (decided.Before p q) ok also is picked = never picked
  set_greatest c d (decided.AtMost n r) ok also is picked =
      let same = eqb-true n m picked in
      rw (← same) (get_or-set_same c.hi n r 0 (omega (arith, is.message, ok.hi_length)) ∙ sym (get_or-set_same d.hi n r 0 (omega (arith, is.message, also.hi_length))))
  set_greatest c d (decided.AtLeast n r) ok also is picked = never picked
  set_greatest c d (decided.Channel n k) ok also is picked = never picked

  left_greatest : (c d : Choice) (δ : Decision) → IsChoice i c → IsChoice i d → IsOpenDecision i c δ → IsFalse (sets_greatest m δ) → SameGreatest c d → SameGreatest (choice_after i c δ) (choice_after i d δ)
  left_greatest c d (decided.Place n) ok also is other same = same
  left_greatest c d (decided.Cap n k) ok also is other same = same
  left_greatest c d (decided.Before p q) ok also is other same = same
  left_greatest c d (decided.AtMost n r) ok also is other same =
      get_or-set_other c.hi n m r 0 (apart n m other) ∙ same ∙ sym (get_or-set_other d.hi n m r 0 (apart n m other))
  left_greatest c d (decided.AtLeast n r) ok also is other same = same
  left_greatest c d (decided.Channel n k) ok also is other same = same

  one_greatest : (c d : Choice) (δ : Decision) → IsChoice i c → IsInside i c d → IsOpenDecision i c δ → IsFalse (sets_greatest m δ) → SameGreatest c d → SameGreatest (choice_after i c δ) d
  one_greatest c d (decided.Place n) ok inside is other same = same
  one_greatest c d (decided.Cap n k) ok inside is other same = same
  one_greatest c d (decided.Before p q) ok inside is other same = same
  one_greatest c d (decided.AtMost n r) ok inside is other same = get_or-set_other c.hi n m r 0 (apart n m other) ∙ same
  one_greatest c d (decided.AtLeast n r) ok inside is other same = same
  one_greatest c d (decided.Channel n k) ok inside is other same = same

  pub greatest_is_set : IsSetBy i SameGreatest (sets_greatest m)
  greatest_is_set = record { set = set_greatest; both = left_greatest; one = one_greatest }

module _ (i : Instance) (p q : ℕ) where
  abbrev SameOrder : Choice → Choice → Type 0
  SameOrder c d = is_before c p q ≡ is_before d p q

  another : (x y : ℕ) → ((x == p) && (y == q)) ≡ false → (p ≢ x) ⊎ (q ≢ y)
  another x y not = elim (cases_eq p x) [
    | inr row ↦ inl row
    | inl first ↦ elim (cases_eq q y) [
      | inr column ↦ inr column
      | inl second ↦ absurd (both_ways _ not (and_from _ _ (eq-eqb x p (sym first)) (eq-eqb y q (sym second))))
    ]
  ]

  set_order : (c d : Choice) (δ : Decision) → IsChoice i c → IsChoice i d → IsOpenDecision i c δ → IsTrue (sets_order p q δ) → SameOrder (choice_after i c δ) (choice_after i d δ)
  set_order c d (decided.Place n) ok also is picked = never picked
  set_order c d (decided.Cap n k) ok also is picked = never picked
  set_order c d (decided.Before x y) ok also is picked =
      let parts = and_parts (x == p) (y == q) picked in
      let first = eqb-true x p parts.0 in
      let second = eqb-true y q parts.1 in
      rw (← first, ← second) (
      put_same c.before x y (omega (arith, is.pair.first, ok.processes)) (omega (arith, is.pair.second, ok.processes)) (rw ok.processes ok.tests)
      ∙ sym (put_same d.before x y (omega (arith, is.pair.first, also.processes)) (omega (arith, is.pair.second, also.processes)) (rw also.processes also.tests)))
  set_order c d (decided.AtMost m r) ok also is picked = never picked
  set_order c d (decided.AtLeast m r) ok also is picked = never picked
  set_order c d (decided.Channel m k) ok also is picked = never picked

  left_order : (c d : Choice) (δ : Decision) → IsChoice i c → IsChoice i d → IsOpenDecision i c δ → IsFalse (sets_order p q δ) → SameOrder c d → SameOrder (choice_after i c δ) (choice_after i d δ)
  left_order c d (decided.Place n) ok also is other same = same
  left_order c d (decided.Cap n k) ok also is other same = same
  left_order c d (decided.Before x y) ok also is other same =
      put_other c.before x y p q (omega (arith, is.pair.first, ok.processes)) (omega (arith, is.pair.second, ok.processes)) (another x y other)
      ∙ same
      ∙ sym (put_other d.before x y p q (omega (arith, is.pair.first, also.processes)) (omega (arith, is.pair.second, also.processes)) (another x y other))
  left_order c d (decided.AtMost m r) ok also is other same = same
  left_order c d (decided.AtLeast m r) ok also is other same = same
  left_order c d (decided.Channel m k) ok also is other same = same

  one_order : (c d : Choice) (δ : Decision) → IsChoice i c → IsInside i c d → IsOpenDecision i c δ → IsFalse (sets_order p q δ) → SameOrder c d → SameOrder (choice_after i c δ) d
  one_order c d (decided.Place n) ok inside is other same = same
  one_order c d (decided.Cap n k) ok inside is other same = same
  one_order c d (decided.Before x y) ok inside is other same =
      put_other c.before x y p q (omega (arith, is.pair.first, ok.processes)) (omega (arith, is.pair.second, ok.processes)) (another x y other) ∙ same
  one_order c d (decided.AtMost m r) ok inside is other same = same
  one_order c d (decided.AtLeast m r) ok inside is other same = same
  one_order c d (decided.Channel m k) ok inside is other same = same

  pub order_is_set : IsSetBy i SameOrder (sets_order p q)
  order_is_set = record { set = set_order; both = left_order; one = one_order }

module _ (i : Instance) (n : ℕ) where
  now_fixed : (c : Choice) (v k : ℕ) → IsChoice i c → v < length i.nodes → v ≡ n → fixed_cap (choice_after i c (decided.Cap v k)) n ≡ Some (slice_index (node_at i n).capacities k)
  now_fixed c v k ok there same = rw (← same) (get_or-set_same c.fixed v (Some (slice_index (node_at i v).capacities k)) None (omega (arith, there, ok.fixed_length)))

  still_fixed : (c : Choice) (v k : ℕ) → n ≢ v → fixed_cap (choice_after i c (decided.Cap v k)) n ≡ fixed_cap c n
  still_fixed c v k other = get_or-set_other c.fixed v n (Some (slice_index (node_at i v).capacities k)) None other

  abbrev SameLeastFrame : Choice → Choice → Type 0
  SameLeastFrame c d = cap_least i c n ≡ cap_least i d n

  fixed_least : (c d : Choice) (v k : ℕ) → IsChoice i c → IsChoice i d → v < length i.nodes → v ≡ n → SameLeastFrame (choice_after i c (decided.Cap v k)) (choice_after i d (decided.Cap v k))
  fixed_least c d v k ok also there same = ap (least_option i n) (now_fixed c v k ok there same ∙ sym (now_fixed d v k also there same))

  set_frame : (c d : Choice) (δ : Decision) → IsChoice i c → IsChoice i d → IsOpenDecision i c δ → IsTrue (fixes_above n δ) → SameLeastFrame (choice_after i c δ) (choice_after i d δ)
  set_frame c d (decided.Place v) ok also is picked = never picked
  set_frame c d (decided.Cap v k) ok also is picked = fixed_least c d v k ok also is.free.0 (eqb-true v n (and_parts (v == n) (nat_lt 0 k) picked).0)
  set_frame c d (decided.Before p q) ok also is picked = never picked
  set_frame c d (decided.AtMost m r) ok also is picked = never picked
  set_frame c d (decided.AtLeast m r) ok also is picked = never picked
  set_frame c d (decided.Channel m k) ok also is picked = never picked

  left_frame : (c d : Choice) (δ : Decision) → IsChoice i c → IsChoice i d → IsOpenDecision i c δ → IsFalse (fixes_above n δ) → SameLeastFrame c d → SameLeastFrame (choice_after i c δ) (choice_after i d δ)
  left_frame c d (decided.Place v) ok also is other same = same
  left_frame c d (decided.Cap v k) ok also is other same = elim (cases_eq n v) [
    | inl here ↦ fixed_least c d v k ok also is.free.0 (sym here)
    | inr elsewhere ↦ ap (least_option i n) (still_fixed c v k elsewhere) ∙ same ∙ sym (ap (least_option i n) (still_fixed d v k elsewhere))
  ]
  left_frame c d (decided.Before p q) ok also is other same = same
  left_frame c d (decided.AtMost m r) ok also is other same = same
  left_frame c d (decided.AtLeast m r) ok also is other same = same
  left_frame c d (decided.Channel m k) ok also is other same = same

  -- the least option is the least anyway
  first_option : (v k : ℕ) → ((v == n) && nat_lt 0 k) ≡ false → v ≡ n → k ≡ 0
  first_option v k other same = elim (cases_lt 0 k) [
    | inl more ↦ absurd (both_ways _ other (and_from _ _ (eq-eqb v n same) (lt-ltb 0 k more)))
    | inr none ↦ omega (arith, none)
  ]

  one_frame : (c d : Choice) (δ : Decision) → IsChoice i c → IsInside i c d → IsOpenDecision i c δ → IsFalse (fixes_above n δ) → SameLeastFrame c d → SameLeastFrame (choice_after i c δ) d
  one_frame c d (decided.Place v) ok inside is other same = same
  one_frame c d (decided.Cap v k) ok inside is other same = elim (cases_eq n v) [
    | inl here ↦
        let first = first_option v k other (sym here) in
        let free : fixed_cap d n ≡ None = rw here (none_outside (fixed_cap d v) (fixed_cap c v) (inside.fixed v is.free.0) is.free.1) in
        ap (least_option i n) (now_fixed c v k ok is.free.0 (sym here))
        ∙ ap (slice_index (node_at i n).capacities) first
        ∙ sym (ap (least_option i n) free)
    | inr elsewhere ↦ ap (least_option i n) (still_fixed c v k elsewhere) ∙ same
  ]
  one_frame c d (decided.Before p q) ok inside is other same = same
  one_frame c d (decided.AtMost m r) ok inside is other same = same
  one_frame c d (decided.AtLeast m r) ok inside is other same = same
  one_frame c d (decided.Channel m k) ok inside is other same = same

  pub least_frame_is_set : IsSetBy i SameLeastFrame (fixes_above n)
  least_frame_is_set = record { set = set_frame; both = left_frame; one = one_frame }

  abbrev SameGreatestFrame : Choice → Choice → Type 0
  SameGreatestFrame c d = cap_most i c n ≡ cap_most i d n

  fixed_most : (c d : Choice) (v k : ℕ) → IsChoice i c → IsChoice i d → v < length i.nodes → v ≡ n → SameGreatestFrame (choice_after i c (decided.Cap v k)) (choice_after i d (decided.Cap v k))
  fixed_most c d v k ok also there same = ap (most_option i n) (now_fixed c v k ok there same ∙ sym (now_fixed d v k also there same))

  set_most : (c d : Choice) (δ : Decision) → IsChoice i c → IsChoice i d → IsOpenDecision i c δ → IsTrue (fixes_below i n δ) → SameGreatestFrame (choice_after i c δ) (choice_after i d δ)
  set_most c d (decided.Place v) ok also is picked = never picked
  set_most c d (decided.Cap v k) ok also is picked = fixed_most c d v k ok also is.free.0 (eqb-true v n (and_parts (v == n) (nat_lt (k + 1) (length (node_at i n).capacities)) picked).0)
  set_most c d (decided.Before p q) ok also is picked = never picked
  set_most c d (decided.AtMost m r) ok also is picked = never picked
  set_most c d (decided.AtLeast m r) ok also is picked = never picked
  set_most c d (decided.Channel m k) ok also is picked = never picked

  left_most : (c d : Choice) (δ : Decision) → IsChoice i c → IsChoice i d → IsOpenDecision i c δ → IsFalse (fixes_below i n δ) → SameGreatestFrame c d → SameGreatestFrame (choice_after i c δ) (choice_after i d δ)
  left_most c d (decided.Place v) ok also is other same = same
  left_most c d (decided.Cap v k) ok also is other same = elim (cases_eq n v) [
    | inl here ↦ fixed_most c d v k ok also is.free.0 (sym here)
    | inr elsewhere ↦ ap (most_option i n) (still_fixed c v k elsewhere) ∙ same ∙ sym (ap (most_option i n) (still_fixed d v k elsewhere))
  ]
  left_most c d (decided.Before p q) ok also is other same = same
  left_most c d (decided.AtMost m r) ok also is other same = same
  left_most c d (decided.AtLeast m r) ok also is other same = same
  left_most c d (decided.Channel m k) ok also is other same = same

  -- the greatest option is the greatest anyway
  last_option : (v k : ℕ) → ((v == n) && nat_lt (k + 1) (length (node_at i n).capacities)) ≡ false → v ≡ n → k < length (node_at i n).capacities → k ≡ length (node_at i n).capacities - 1
  last_option v k other same there = elim (cases_lt (k + 1) (length (node_at i n).capacities)) [
    | inl more ↦ absurd (both_ways _ other (and_from _ _ (eq-eqb v n same) (lt-ltb (k + 1) (length (node_at i n).capacities) more)))
    | inr none ↦ omega (arith, none, there)
  ]

  one_most : (c d : Choice) (δ : Decision) → IsChoice i c → IsInside i c d → IsOpenDecision i c δ → IsFalse (fixes_below i n δ) → SameGreatestFrame c d → SameGreatestFrame (choice_after i c δ) d
  one_most c d (decided.Place v) ok inside is other same = same
  one_most c d (decided.Cap v k) ok inside is other same = elim (cases_eq n v) [
    | inl here ↦
        let option : k < length (node_at i n).capacities = rw here is.option in
        let last = last_option v k other (sym here) option in
        let free : fixed_cap d n ≡ None = rw here (none_outside (fixed_cap d v) (fixed_cap c v) (inside.fixed v is.free.0) is.free.1) in
        ap (most_option i n) (now_fixed c v k ok is.free.0 (sym here))
        ∙ ap (slice_index (node_at i n).capacities) last
        ∙ sym (ap (most_option i n) free)
    | inr elsewhere ↦ ap (most_option i n) (still_fixed c v k elsewhere) ∙ same
  ]
  one_most c d (decided.Before p q) ok inside is other same = same
  one_most c d (decided.AtMost m r) ok inside is other same = same
  one_most c d (decided.AtLeast m r) ok inside is other same = same
  one_most c d (decided.Channel m k) ok inside is other same = same

  pub greatest_frame_is_set : IsSetBy i SameGreatestFrame (fixes_below i n)
  greatest_frame_is_set = record { set = set_most; both = left_most; one = one_most }

-- What is told of a channel alone, and is the same of one that fails a test as of none, is set where one passes.
module _ (i : Instance) (X : Type 0) (tells : Option ℕ → X) (test : ℕ → Bool) (as_none : (k : ℕ) → test k ≡ false → tells (Some k) ≡ tells None) (m : ℕ) where
  abbrev SameChannel : Choice → Choice → Type 0
  SameChannel c d = tells (fixed_channel c m) ≡ tells (fixed_channel d m)

  now_on : (c : Choice) (n k : ℕ) → IsChoice i c → n < length i.messages → n ≡ m → fixed_channel (choice_after i c (decided.Channel n k)) m ≡ Some k
  now_on c n k ok there same = rw (← same) (get_or-set_same c.channels n (Some k) None (omega (arith, there, ok.channels_length)))

  still_on : (c : Choice) (n k : ℕ) → m ≢ n → fixed_channel (choice_after i c (decided.Channel n k)) m ≡ fixed_channel c m
  still_on c n k other = get_or-set_other c.channels n m (Some k) None other

  both_now : (c d : Choice) (n k : ℕ) → IsChoice i c → IsChoice i d → n < length i.messages → n ≡ m → SameChannel (choice_after i c (decided.Channel n k)) (choice_after i d (decided.Channel n k))
  both_now c d n k ok also there same = ap tells (now_on c n k ok there same ∙ sym (now_on d n k also there same))

  set_channel : (c d : Choice) (δ : Decision) → IsChoice i c → IsChoice i d → IsOpenDecision i c δ → IsTrue (fixes_channel test m δ) → SameChannel (choice_after i c δ) (choice_after i d δ)
  set_channel c d (decided.Place n) ok also is picked = never picked
  set_channel c d (decided.Cap n k) ok also is picked = never picked
  set_channel c d (decided.Before p q) ok also is picked = never picked
  set_channel c d (decided.AtMost n r) ok also is picked = never picked
  set_channel c d (decided.AtLeast n r) ok also is picked = never picked
  set_channel c d (decided.Channel n k) ok also is picked = both_now c d n k ok also is.free.message (eqb-true n m (and_parts (n == m) (test k) picked).0)

  left_channel : (c d : Choice) (δ : Decision) → IsChoice i c → IsChoice i d → IsOpenDecision i c δ → IsFalse (fixes_channel test m δ) → SameChannel c d → SameChannel (choice_after i c δ) (choice_after i d δ)
  left_channel c d (decided.Place n) ok also is other same = same
  left_channel c d (decided.Cap n k) ok also is other same = same
  left_channel c d (decided.Before p q) ok also is other same = same
  left_channel c d (decided.AtMost n r) ok also is other same = same
  left_channel c d (decided.AtLeast n r) ok also is other same = same
  left_channel c d (decided.Channel n k) ok also is other same = elim (cases_eq m n) [
    | inl here ↦ both_now c d n k ok also is.free.message (sym here)
    | inr elsewhere ↦ ap tells (still_on c n k elsewhere) ∙ same ∙ sym (ap tells (still_on d n k elsewhere))
  ]

  fails : (n k : ℕ) → ((n == m) && test k) ≡ false → n ≡ m → test k ≡ false
  fails n k other same = elim (cases_Bool (test k)) [
    | inl so ↦ absurd (both_ways _ other (and_from _ _ (eq-eqb n m same) so))
    | inr not ↦ not
  ]

  one_channel : (c d : Choice) (δ : Decision) → IsChoice i c → IsInside i c d → IsOpenDecision i c δ → IsFalse (fixes_channel test m δ) → SameChannel c d → SameChannel (choice_after i c δ) d
  one_channel c d (decided.Place n) ok inside is other same = same
  one_channel c d (decided.Cap n k) ok inside is other same = same
  one_channel c d (decided.Before p q) ok inside is other same = same
  one_channel c d (decided.AtMost n r) ok inside is other same = same
  one_channel c d (decided.AtLeast n r) ok inside is other same = same
  one_channel c d (decided.Channel n k) ok inside is other same = elim (cases_eq m n) [
    | inl here ↦
        let free : fixed_channel d m ≡ None = rw here (none_outside (fixed_channel d n) (fixed_channel c n) (inside.channels n is.free.message) is.free.free) in
        ap tells (now_on c n k ok is.free.message (sym here))
        ∙ as_none k (fails n k other (sym here))
        ∙ sym (ap tells free)
    | inr elsewhere ↦ ap tells (still_on c n k elsewhere) ∙ same
  ]

  pub channel_is_set : IsSetBy i SameChannel (fixes_channel test m)
  channel_is_set = record { set = set_channel; both = left_channel; one = one_channel }
