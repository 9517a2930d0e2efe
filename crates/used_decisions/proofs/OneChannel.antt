-- A path's decisions fix the channel of a message once: so the decision that fixes it to one that passes a test is the one that fixes it.
use Rattle.std.proofs.Common.{◌≡◌, ℕ, ◌<◌, ◌==◌, List, [], ◌∷◌, length, Option, None, Some, Bool, true, false, arith, refl, ap, sym, subst, ◌∙◌, get_or-set_same, get_or-set_other}
use Rattle.std.proofs.lemmas.Bool.{eq-eqb, ne_eqb, eqb-true, and_parts, both_ways, false≢true}
use Rattle.ttp_model.specs.Instance.{Instance}
use Rattle.tt_choice.specs.declared.decision.Decision.{Decision}
use Rattle.tt_choice.specs.declared.decision.Decision.TheVariants.{Place, Cap, Before, AtMost, AtLeast, Channel}
use Rattle.tt_choice.specs.Choice.{Choice, fixed_channel}
use Rattle.tt_choice.specs.Branches.{root_choice}
use Rattle.tt_choice.specs.Decisions.{IsOpenDecision, AreOpenDecisions, choice_after}
use Rattle.tt_choice.specs.Kept.{fixes_channel}
use Rattle.used_decisions.specs.declared.turn.Turn.{Turn}
use Rattle.used_decisions.specs.Turns.{later_of, last_of, channel_of, fixes_any}
use Rattle.used_decisions.specs.Marks.{IsTold}
use Rattle.used_decisions.proofs.Counts.{is_last}
use Rattle.used_decisions.specs.Steps.{decisions_of, fixes_so}
use Rattle.used_decisions.proofs.Said.{channels_room, root_channels_room}

pub none_is_some : {X : Type 0} (x : X) → ¬ ◌≡◌ {A = Option X} None (Some x)
none_is_some x same = cc

some_same : (turn other : Turn) → ◌≡◌ {A = Option Turn} (Some turn) (Some other) → turn ≡ other
some_same turn other same = cc

module _ (i : Instance) (m : ℕ) (inside : m < length i.messages) where
  -- a decision that is open fixes no channel that is fixed, and leaves it
  not_again : (c : Choice) (d : Decision) (k : ℕ) (test : ℕ → Bool) → fixed_channel c m ≡ Some k → IsOpenDecision i c d → fixes_channel test m d ≡ false
  not_again c (Place n) k test fixed is_open = refl
  not_again c (Cap n j) k test fixed is_open = refl
  not_again c (Before p q) k test fixed is_open = refl
  not_again c (AtMost n r) k test fixed is_open = refl
  not_again c (AtLeast n r) k test fixed is_open = refl
  not_again c (Channel n j) k test fixed is_open = rw (ne_eqb n m (λ same. none_is_some k (sym is_open.free.free ∙ (ap (fixed_channel c) same ∙ fixed)))) refl

  stays_fixed : (c : Choice) (d : Decision) (k : ℕ) → fixed_channel c m ≡ Some k → IsOpenDecision i c d → fixed_channel (choice_after i c d) m ≡ Some k
  stays_fixed c (Place n) k fixed is_open = fixed
  stays_fixed c (Cap n j) k fixed is_open = fixed
  stays_fixed c (Before p q) k fixed is_open = fixed
  stays_fixed c (AtMost n r) k fixed is_open = fixed
  stays_fixed c (AtLeast n r) k fixed is_open = fixed
  stays_fixed c (Channel n j) k fixed is_open =
      get_or-set_other c.channels n m (Some j) None (λ same. none_is_some k (sym is_open.free.free ∙ (ap (fixed_channel c) (sym same) ∙ fixed))) ∙ fixed

  none_more : (c : Choice) (turns : List Turn) (k : ℕ) (test : ℕ → Bool) → fixed_channel c m ≡ Some k → AreOpenDecisions i c (decisions_of turns)
      → last_of (fixes_channel test m) turns ≡ None
  none_more c [] k test fixed are = refl
  none_more c (turn ∷ turns) k test fixed are =
      rw (
        none_more (choice_after i c turn.decision) turns k test (stays_fixed c turn.decision k fixed are.0) are.1,
        not_again c turn.decision k test
            fixed are.0,
      ) refl

  -- one that fixes it has fixed it
  has_fixed : (c : Choice) (d : Decision) (test : ℕ → Bool) → length c.channels ≡ length i.messages → fixes_channel test m d ≡ true
      → (fixes_any m d ≡ true) × (fixed_channel (choice_after i c d) m ≡ Some (channel_of d))
  has_fixed c (Place n) test room picks = absurd (false≢true picks)
  has_fixed c (Cap n j) test room picks = absurd (false≢true picks)
  has_fixed c (Before p q) test room picks = absurd (false≢true picks)
  has_fixed c (AtMost n r) test room picks = absurd (false≢true picks)
  has_fixed c (AtLeast n r) test room picks = absurd (false≢true picks)
  has_fixed c (Channel n j) test room picks =
      let same : n ≡ m = eqb-true n m (and_parts (n == m) (test j) picks).0 in
      (rw (eq-eqb n m same) refl, rw same (get_or-set_same c.channels m (Some j) None (omega (arith, inside, room))))

  only_at : (c : Choice) (turn : Turn) (turns : List Turn) (test : ℕ → Bool) (one : Turn) (last : Option Turn) (picked : Bool)
      → length c.channels ≡ length i.messages → AreOpenDecisions i (choice_after i c turn.decision) (decisions_of turns)
      → (◌≡◌ {A = Option Turn} last (Some one) → last_of (fixes_any m) turns ≡ Some one)
      → fixes_channel test m turn.decision ≡ picked → later_of picked turn last ≡ Some one → later_of (fixes_any m turn.decision) turn
      (last_of (fixes_any m) turns) ≡ Some one
  only_at c turn turns test one None true room are rest picks is =
      let fixed = has_fixed c turn.decision test room picks in
      let none : last_of (fixes_any m) turns ≡ None = none_more (choice_after i c turn.decision) turns (channel_of turn.decision) (λ k. true) fixed.1 are in
      rw (none, fixed.0) is
  only_at c turn turns test one None false room are rest picks is = absurd (none_is_some one is)
  only_at c turn turns test one (Some last) picked room are rest picks is = rw (rest is) refl

  only_one : (c : Choice) (turns : List Turn) (test : ℕ → Bool) (one : Turn) → length c.channels ≡ length i.messages
      → AreOpenDecisions i c (decisions_of turns) → last_of (fixes_channel test m) turns ≡ Some one → last_of (fixes_any m) turns ≡ Some one
  only_one c [] test one room are is = absurd (none_is_some one is)
  only_one c (turn ∷ turns) test one room are is =
      only_at c turn turns test one (last_of (fixes_channel test m) turns) (fixes_channel test m turn.decision) room are.1
      (λ last. only_one (choice_after i c turn.decision) turns test one (channels_room i c turn.decision ∙ room) are.1 last)
      refl is

  module _ (turns : List Turn) (are : AreOpenDecisions i (root_choice i) (decisions_of turns)) (levels : List Bool) (test : ℕ → Bool) where
    one_of_root : (one : Turn) → last_of (fixes_channel test m) turns ≡ Some one → last_of (fixes_any m) turns ≡ Some one
    one_of_root one is = only_one (root_choice i) turns test one (root_channels_room i) are is

    told_as : (last : Option Turn) → last_of (fixes_channel test m) turns ≡ last → IsTold levels (last_of (fixes_any m) turns) → IsTold levels last
    told_as None is told = tt
    told_as (Some one) is told = subst (IsTold levels) (one_of_root one is) told

    -- where the decision that fixes a channel is told, it is told of each test
    pub told_channel : IsTold levels (last_of (fixes_any m) turns) → IsTold levels (last_of (fixes_channel test m) turns)
    told_channel told = told_as (last_of (fixes_channel test m) turns) refl told

    picks_tested : (d : Decision) → fixes_channel test m d ≡ true → test (channel_of d) ≡ true
    picks_tested (Place n) picks = absurd (false≢true picks)
    picks_tested (Cap n j) picks = absurd (false≢true picks)
    picks_tested (Before p q) picks = absurd (false≢true picks)
    picks_tested (AtMost n r) picks = absurd (false≢true picks)
    picks_tested (AtLeast n r) picks = absurd (false≢true picks)
    picks_tested (Channel n j) picks = (and_parts (n == m) (test j) picks).1

    told_none : (last any : Option Turn) → last_of (fixes_channel test m) turns ≡ last → last_of (fixes_any m) turns ≡ any
        → fixes_so test any ≡ false → IsTold levels last
    told_none None any is fixes fails = tt
    told_none (Some one) None is fixes fails = absurd (none_is_some one (sym fixes ∙ one_of_root one is))
    told_none (Some one) (Some turn) is fixes fails =
        let same : turn ≡ one = some_same turn one (sym fixes ∙ one_of_root one is) in
        absurd (both_ways _ (subst (λ (x : Turn). test (channel_of x.decision) ≡ false) same fails)
        (picks_tested one.decision (is_last (fixes_channel test m) turns one is).picked))

    -- where it fixes one that doesn't pass, or there is none, nothing is to be told
    pub told_no_channel : fixes_so test (last_of (fixes_any m) turns) ≡ false → IsTold levels (last_of (fixes_channel test m) turns)
    told_no_channel fails = told_none (last_of (fixes_channel test m) turns) (last_of (fixes_any m) turns) refl refl fails
