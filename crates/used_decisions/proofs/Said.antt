-- What the decisions of a path say of rounds and channels: what the last one on each says, or what was so before them.
use Rattle.std.proofs.Common.{◌≡◌, ℕ, ◌-◌, ◌<◌, ◌==◌, ◌&&◌, if◌then◌else◌, List, [], ◌∷◌, length, slice_index, slice_set, Option, None, Some, Bool, true, false, arith, inl, inr, refl, ap, sym, ◌∙◌, length-set, get_or, get_or-set_same, get_or-set_other}
use Rattle.std.proofs.lemmas.Bool.{cases_eq, eq-eqb, ne_eqb}
use Rattle.std.proofs.lemmas.List.{length-replicate, get_or-replicate, length-map}
use Rattle.std.proofs.lemmas.List.FromFn.{get_or-map-range_with_len, length-range_with_len}
use Rattle.std.specs.List.{range_with_len}
use Rattle.ttp_model.specs.Instance.{Instance}
use Rattle.tt_choice.specs.declared.decision.Decision.{Decision}
use Rattle.tt_choice.specs.declared.decision.Decision.TheVariants.{Place, Cap, Before, AtMost, AtLeast, Channel}
use Rattle.tt_choice.specs.Choice.{Choice, fixed_channel, least_round, greatest_round}
use Rattle.tt_choice.specs.Branches.{root_choice, root_channel}
use Rattle.tt_choice.specs.Decisions.{choice_after, choice_after_all, chosen}
use Rattle.tt_choice.specs.Kept.{sets_least, sets_greatest}
use Rattle.used_decisions.specs.declared.turn.Turn.{Turn}
use Rattle.used_decisions.specs.Turns.{later_of, last_of, round_of, channel_of, fixes_any}
use Rattle.used_decisions.specs.Steps.{decisions_of, round_said}

-- the channel that it fixes
abbrev pub channel_said : Option ℕ → Option Turn → Option ℕ
channel_said before None = before
channel_said before (Some turn) = Some (channel_of turn.decision)

round_later : (picked : Bool) (turn : Turn) (before : ℕ) (last : Option Turn)
    → round_said (if picked then round_of turn.decision else before) last ≡ round_said before (later_of picked turn last)
round_later true turn before None = refl
round_later false turn before None = refl
round_later true turn before (Some one) = refl
round_later false turn before (Some one) = refl

channel_later : (picked : Bool) (turn : Turn) (before : Option ℕ) (last : Option Turn)
    → channel_said (if picked then Some (channel_of turn.decision) else before) last ≡ channel_said before (later_of picked turn last)
channel_later true turn before None = refl
channel_later false turn before None = refl
channel_later true turn before (Some one) = refl
channel_later false turn before (Some one) = refl

-- a number of a list is set, or stays
set_round : (xs : List ℕ) (n m r : ℕ) → m < length xs → slice_index (slice_set xs n r) m ≡ (if n == m then r else slice_index xs m)
set_round xs n m r there = elim (cases_eq n m) [
  | inl same ↦ rw (same, eq-eqb m m refl) (get_or-set_same xs m r 0 there)
  | inr other ↦ rw (ne_eqb n m other) (get_or-set_other xs n m r 0 (λ is. other (sym is)))
]

set_channel : (xs : List (Option ℕ)) (n m k : ℕ) (test : Bool) → test ≡ true → m < length xs
    → ◌≡◌ {A = Option ℕ} (get_or (slice_set xs n (Some k)) m None) (if (n == m) && test then Some k else get_or xs m None)
set_channel xs n m k test is there = elim (cases_eq n m) [
  | inl same ↦ rw (same, eq-eqb m m refl, is) (get_or-set_same xs m (Some k) None there)
  | inr other ↦ rw (ne_eqb n m other) (get_or-set_other xs n m (Some k) None (λ is. other (sym is)))
]

module _ (i : Instance) where
  least_room : (c : Choice) (d : Decision) → length (choice_after i c d).lo ≡ length c.lo
  least_room c (Place n) = refl
  least_room c (Cap n k) = refl
  least_room c (Before p q) = refl
  least_room c (AtMost m r) = refl
  least_room c (AtLeast m r) = length-set c.lo m r
  least_room c (Channel m k) = refl

  least_one : (c : Choice) (d : Decision) (m : ℕ) → m < length c.lo
      → least_round (choice_after i c d) m ≡ (if sets_least m d then round_of d else least_round c m)
  least_one c (Place n) m there = refl
  least_one c (Cap n k) m there = refl
  least_one c (Before p q) m there = refl
  least_one c (AtMost n r) m there = refl
  least_one c (AtLeast n r) m there = set_round c.lo n m r there
  least_one c (Channel n k) m there = refl

  least_from : (c : Choice) (turns : List Turn) (m : ℕ) → m < length c.lo
      → least_round (choice_after_all i c (decisions_of turns)) m ≡ round_said (least_round c m) (last_of (sets_least m) turns)
  least_from c [] m there = refl
  least_from c (turn ∷ turns) m there =
      least_from (choice_after i c turn.decision) turns m (omega (arith, there, least_room c turn.decision))
      ∙ (ap (λ (r : ℕ). round_said r (last_of (sets_least m) turns)) (least_one c turn.decision m there)
      ∙ round_later (sets_least m turn.decision) turn (least_round c m) (last_of (sets_least m) turns))

  greatest_room : (c : Choice) (d : Decision) → length (choice_after i c d).hi ≡ length c.hi
  greatest_room c (Place n) = refl
  greatest_room c (Cap n k) = refl
  greatest_room c (Before p q) = refl
  greatest_room c (AtMost m r) = length-set c.hi m r
  greatest_room c (AtLeast m r) = refl
  greatest_room c (Channel m k) = refl

  greatest_one : (c : Choice) (d : Decision) (m : ℕ) → m < length c.hi
      → greatest_round (choice_after i c d) m ≡ (if sets_greatest m d then round_of d else greatest_round c m)
  greatest_one c (Place n) m there = refl
  greatest_one c (Cap n k) m there = refl
  greatest_one c (Before p q) m there = refl
  greatest_one c (AtMost n r) m there = set_round c.hi n m r there
  greatest_one c (AtLeast n r) m there = refl
  greatest_one c (Channel n k) m there = refl

  greatest_from : (c : Choice) (turns : List Turn) (m : ℕ) → m < length c.hi
      → greatest_round (choice_after_all i c (decisions_of turns)) m ≡ round_said (greatest_round c m) (last_of (sets_greatest m) turns)
  greatest_from c [] m there = refl
  greatest_from c (turn ∷ turns) m there =
      greatest_from (choice_after i c turn.decision) turns m (omega (arith, there, greatest_room c turn.decision))
      ∙ (ap (λ (r : ℕ). round_said r (last_of (sets_greatest m) turns)) (greatest_one c turn.decision m there)
      ∙ round_later (sets_greatest m turn.decision) turn (greatest_round c m) (last_of (sets_greatest m) turns))

  pub channels_room : (c : Choice) (d : Decision) → length (choice_after i c d).channels ≡ length c.channels
  channels_room c (Place n) = refl
  channels_room c (Cap n k) = refl
  channels_room c (Before p q) = refl
  channels_room c (AtMost m r) = refl
  channels_room c (AtLeast m r) = refl
  channels_room c (Channel m k) = length-set c.channels m (Some k)

  channel_one : (c : Choice) (d : Decision) (m : ℕ) → m < length c.channels
      → fixed_channel (choice_after i c d) m ≡ (if fixes_any m d then Some (channel_of d) else fixed_channel c m)
  channel_one c (Place n) m there = refl
  channel_one c (Cap n k) m there = refl
  channel_one c (Before p q) m there = refl
  channel_one c (AtMost n r) m there = refl
  channel_one c (AtLeast n r) m there = refl
  channel_one c (Channel n k) m there = set_channel c.channels n m k true refl there

  channel_from : (c : Choice) (turns : List Turn) (m : ℕ) → m < length c.channels
      → fixed_channel (choice_after_all i c (decisions_of turns)) m ≡ channel_said (fixed_channel c m) (last_of (fixes_any m) turns)
  channel_from c [] m there = refl
  channel_from c (turn ∷ turns) m there =
      channel_from (choice_after i c turn.decision) turns m (omega (arith, there, channels_room c turn.decision))
      ∙ (ap (λ (k : Option ℕ). channel_said k (last_of (fixes_any m) turns)) (channel_one c turn.decision m there)
      ∙ channel_later (fixes_any m turn.decision) turn (fixed_channel c m) (last_of (fixes_any m) turns))

  pub root_channels_room : length (root_choice i).channels ≡ length i.messages
  root_channels_room = length-map (range_with_len 0 (length i.messages)) (root_channel i) ∙ length-range_with_len 0 (length i.messages)

  -- the least and the greatest round that a path says, and the channel
  pub said_least : (turns : List Turn) (m : ℕ) → m < length i.messages
      → least_round (chosen i (decisions_of turns)) m ≡ round_said 0 (last_of (sets_least m) turns)
  said_least turns m there =
      least_from (root_choice i) turns m (omega (arith, there, length-replicate {A = ℕ} (length i.messages) 0))
      ∙ ap (λ (r : ℕ). round_said r (last_of (sets_least m) turns)) (get_or-replicate {A = ℕ} (length i.messages) m 0 0 there)

  pub said_greatest : (turns : List Turn) (m : ℕ) → m < length i.messages
      → greatest_round (chosen i (decisions_of turns)) m ≡ round_said (i.cluster.horizon - 1) (last_of (sets_greatest m) turns)
  said_greatest turns m there =
      greatest_from (root_choice i) turns m (omega (arith, there, length-replicate {A = ℕ} (length i.messages) (i.cluster.horizon - 1)))
      ∙ ap (λ (r : ℕ). round_said r (last_of (sets_greatest m) turns)) (get_or-replicate {A = ℕ} (length i.messages) m (i.cluster.horizon - 1) 0 there)

  pub said_channel : (turns : List Turn) (m : ℕ) → m < length i.messages
      → fixed_channel (chosen i (decisions_of turns)) m ≡ channel_said (root_channel i m) (last_of (fixes_any m) turns)
  said_channel turns m there =
      channel_from (root_choice i) turns m (omega (arith, there, root_channels_room))
      ∙ ap (λ (k : Option ℕ). channel_said k (last_of (fixes_any m) turns)) (get_or-map-range_with_len (root_channel i) 0 (length i.messages) m m
      None there (omega arith))
