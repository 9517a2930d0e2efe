-- Complete choices of the worked example with one message.
use Rattle.std.proofs.Common.{◌≡◌, ℕ, zero, suc, ◌<◌, [], ◌∷◌, slice_index, IsSome, IsTrue, lit<, lit≤, arith, refl}
use Rattle.std.proofs.lemmas.Bool.{both_ways, false≢true}
use Rattle.std.proofs.lemmas.List.Elements.{Contains-get_or}
use Rattle.ttp_model.specs.Plans.{start_of, channel_of}
use Rattle.ttp_model.specs.Worked.{one_message, one_message_plan}
use Rattle.ttp_model.proofs.OneMessagePlan.{plan_is_valid}
use Rattle.tt_choice.specs.Choice.{IsChoice, IsComplete, IsIn, IsOption, IsChannel, IsOrdered, IsFixedTo, IsSentInRange, fixed_cap, fixed_channel, is_before, least_round, greatest_round}
use Rattle.tt_choice.proofs.Before.{nothing_goes}
use Rattle.tt_infer.proofs.OneMessageRules.{one_message_is_instance}
use Rattle.earliest_starts.specs.declared.clash.Clash.TheVariants.{Round}
use Rattle.earliest_starts.specs.Clashes.{WaitsUntil, released, arrived, IsClash}
use Rattle.earliest_starts.specs.Answers.{IsEarliest}
use Rattle.earliest_starts.proofs.Sound.{waits_le}
use Rattle.branch_tree.specs.Examples.{one_message_in}

node_there : (k : ℕ) → k < 2 → slice_index (0 ∷ 1 ∷ []) k < 2
node_there zero lt = lit< tt
node_there (suc zero) lt = lit< tt
node_there (suc (suc k)) lt = absurd (omega arith)

placed_once : (j k : ℕ) → j < k → k < 2 → slice_index (0 ∷ 1 ∷ []) j ≡ slice_index (0 ∷ 1 ∷ []) k → ⊥
placed_once zero (suc zero) lt inside same = omega (arith, same)
placed_once zero zero lt inside same = omega arith
placed_once (suc j) (suc zero) lt inside same = omega arith
placed_once (suc j) zero lt inside same = omega arith
placed_once j (suc (suc k)) lt inside same = omega arith

module _ (round : ℕ) where
  option : (n : ℕ) → n < 2 → IsOption one_message n (fixed_cap (one_message_in round) n)
  option zero lt = Contains-get_or (2 ∷ []) 0 0 (lit< tt)
  option (suc zero) lt = Contains-get_or (0 ∷ []) 0 0 (lit< tt)
  option (suc (suc n)) lt = absurd (omega arith)

  no_order : (p q : ℕ) → IsTrue (is_before (one_message_in round) p q) → ⊥
  no_order p q holds = both_ways _ (nothing_goes 2 p q) holds

  same_round : (m : ℕ) → m < 1 → least_round (one_message_in round) m ≡ greatest_round (one_message_in round) m
  same_round zero lt = refl
  same_round (suc m) lt = absurd (omega arith)

  within : round < 100 → (m : ℕ) → m < 1 → greatest_round (one_message_in round) m < 100
  within early zero lt = early
  within early (suc m) lt = absurd (omega arith)

  channel : (m : ℕ) → m < 1 → IsChannel one_message m (fixed_channel (one_message_in round) m)
  channel zero lt = record { known = omega arith; alone = λ _. refl; both = λ twice. absurd (false≢true twice) }
  channel (suc m) lt = absurd (omega arith)

  -- it is one of the example, whatever the round
  pub is_choice : round < 100 → IsChoice one_message (one_message_in round)
  is_choice early = record {
    few = lit≤ tt;
    nodes = node_there;
    once = placed_once;
    fixed_length = refl;
    options = option;
    processes = refl;
    tests = refl;
    pairs = λ p q holds. absurd (no_order p q holds);
    unordered = refl;
    lo_length = refl;
    hi_length = refl;
    ranges = λ m h. omega (arith, same_round m h);
    within = within early;
    channels_length = refl;
    channels = channel;
  }

  fixed : (n : ℕ) → n < 2 → IsSome (fixed_cap (one_message_in round) n)
  fixed zero lt = refl
  fixed (suc zero) lt = refl
  fixed (suc (suc n)) lt = absurd (omega arith)

  on_channel : (m : ℕ) → m < 1 → IsSome (fixed_channel (one_message_in round) m)
  on_channel zero lt = refl
  on_channel (suc m) lt = absurd (omega arith)

  ordered : (p q : ℕ) → q < p → p < 2 → IsOrdered one_message (one_message_in round) p q
  ordered zero q below inside same = absurd (omega (arith, below))
  ordered (suc zero) zero below inside same = absurd (omega (arith, same))
  ordered (suc zero) (suc q) below inside same = absurd (omega (arith, below))
  ordered (suc (suc p)) q below inside same = absurd (omega (arith, inside))

  pub is_complete : IsComplete one_message (one_message_in round)
  is_complete = record { placed = refl; fixed = fixed; ordered = ordered; rounds = same_round; channels = on_channel }

as_placed : (k : ℕ) → k < 2 → slice_index (one_message_plan 0).order k ≡ slice_index (one_message_in 1).prefix k
as_placed k lt = refl

as_fixed : (n : ℕ) → n < 2 → IsFixedTo (fixed_cap (one_message_in 1) n) (slice_index (one_message_plan 0).caps n)
as_fixed zero lt = refl
as_fixed (suc zero) lt = refl
as_fixed (suc (suc n)) lt = absurd (omega arith)

in_range : (m : ℕ) → m < 1 → IsSentInRange (one_message_in 1) (one_message_plan 0) m
in_range zero lt = (lit≤ tt, lit≤ tt)
in_range (suc m) lt = absurd (omega arith)

on_its_channel : (m : ℕ) → m < 1 → IsFixedTo (fixed_channel (one_message_in 1) m) (channel_of (one_message_plan 0) m)
on_its_channel zero lt = refl
on_its_channel (suc m) lt = absurd (omega arith)

is_chosen : IsIn one_message (one_message_in 1) (one_message_plan 0)
is_chosen = record {
  lengths = plan_is_valid.lengths;
  prefix = as_placed;
  fixed = as_fixed;
  pairs = λ p q holds. absurd (no_order 1 p q holds);
  ranges = in_range;
  channels = on_its_channel;
}

waits : (p : ℕ) → p < 2 → WaitsUntil one_message (one_message_in 1) p (start_of (one_message_plan 0) p)
waits zero lt = released 0 (lit< tt)
waits (suc zero) lt = arrived 0 1 (lit< tt) (Contains-get_or (1 ∷ []) 0 0 (lit< tt))
waits (suc (suc p)) lt = absurd (omega arith)

pub is_earliest : IsEarliest one_message (one_message_in 1) (one_message_plan 0)
is_earliest = record {
  valid = plan_is_valid;
  chosen = is_chosen;
  waits = waits;
  least =
      λ other valid chosen p inside. waits_le one_message (one_message_in 1) other one_message_is_instance (is_choice 1 (lit< tt)) (is_complete 1)
      valid chosen p (start_of (one_message_plan 0) p) (waits p inside);
}

pub misses_slot : IsClash one_message (one_message_in 0) (Round 0)
misses_slot = record { message = lit< tt; time = 0; waits = released 0 (lit< tt); late = lit< tt }
