-- What a path and earlier steps tell of rounds and channels, and when a message may count.
use Rattle.std.proofs.Common.{◌≡◌, ℕ, ◌+◌, ◌-◌, ◌<◌, ◌≤◌, ◌⊎◌, nat_lt, nat_le, List, length, Option, None, Some, Bool, true, false, IsTrue, IsFalse, arith, inl, inr, refl, ap, sym, subst, ◌∙◌, lt-ltb, le-leb, ltb-true}
use Rattle.std.proofs.lemmas.Bool.{cases_Bool, both_ways, false≢true}
use Rattle.std.proofs.lemmas.Bool.Decides.{eqb_tells}
use Rattle.ttp_model.specs.Instance.{Instance, message_at}
use Rattle.ttp_model.specs.Plans.{is_on}
use Rattle.tt_choice.specs.Branches.{root_channel}
use Rattle.tt_choice.specs.Kept.{sets_least, sets_greatest}
use Rattle.sought_plans.specs.Known.{Known, lo_of, top_of}
use Rattle.sought_plans.specs.Premises.{is_fixed_on, counts_on}
use Rattle.used_decisions.specs.declared.turn.Turn.{Turn}
use Rattle.used_decisions.specs.declared.turn.Cut.{Cut}
use Rattle.used_decisions.specs.declared.turn.OnChannel.{OnChannel}
use Rattle.used_decisions.specs.Turns.{Path, last_of, level_of, cut_of, round_of, fixes_any, on_channel_of}
use Rattle.used_decisions.specs.Marks.{IsTold}
use Rattle.used_decisions.specs.declared.given.Given.{Given}
use Rattle.used_decisions.specs.Given.{gives_least, gives_greatest}
use Rattle.used_decisions.specs.Steps.{AreRoundsKnown, choice_of, is_below, is_from, is_behind, round_said, fixes_so}
use Rattle.used_decisions.proofs.Said.{channel_said, said_least, said_greatest, said_channel}

-- what a test answers of a bound that a path told is what it answers of the decision
pub below_cut : (r : ℕ) (last : Option Turn) (cut : Cut) → Some cut ≡ cut_of last → nat_lt cut.round r ≡ is_below r last
below_cut r None cut is = cc
below_cut r (Some turn) cut is = ap (λ (x : Option Cut). round_below x) is
  where
    round_below : Option Cut → Bool
    round_below None = false
    round_below (Some x) = nat_lt x.round r

pub below_none : (r : ℕ) (last : Option Turn) → None ≡ cut_of last → false ≡ is_below r last
below_none r None is = refl
below_none r (Some turn) is = cc

pub from_cut : (r : ℕ) (last : Option Turn) (cut : Cut) → Some cut ≡ cut_of last → nat_le r cut.round ≡ is_from r last
from_cut r None cut is = cc
from_cut r (Some turn) cut is = ap (λ (x : Option Cut). round_from x) is
  where
    round_from : Option Cut → Bool
    round_from None = false
    round_from (Some x) = nat_le r x.round

pub from_none : (r : ℕ) (last : Option Turn) → None ≡ cut_of last → false ≡ is_from r last
from_none r None is = refl
from_none r (Some turn) is = cc

pub behind_cut : (r : ℕ) (last : Option Turn) (cut : Cut) → Some cut ≡ cut_of last → nat_lt r cut.round ≡ is_behind r last
behind_cut r None cut is = cc
behind_cut r (Some turn) cut is = ap (λ (x : Option Cut). round_behind x) is
  where
    round_behind : Option Cut → Bool
    round_behind None = false
    round_behind (Some x) = nat_lt r x.round

pub behind_no_cut : (r : ℕ) (last : Option Turn) → None ≡ cut_of last → false ≡ is_behind r last
behind_no_cut r None is = refl
behind_no_cut r (Some turn) is = cc

pub said_cut : (last : Option Turn) (cut : Cut) → Some cut ≡ cut_of last → cut.round ≡ round_said 0 last
said_cut None cut is = cc
said_cut (Some turn) cut is = ap (λ (x : Option Cut). round_in x) is
  where
    round_in : Option Cut → ℕ
    round_in None = 0
    round_in (Some x) = x.round

pub said_no_cut : (last : Option Turn) → None ≡ cut_of last → 0 ≡ round_said 0 last
said_no_cut None is = refl
said_no_cut (Some turn) is = cc

pub on_test : (test : ℕ → Bool) (last : Option Turn) (on : OnChannel) → Some on ≡ on_channel_of last → test on.channel ≡ fixes_so test last
on_test test None on is = cc
on_test test (Some turn) on is = ap (λ (x : Option OnChannel). channel_test x) is
  where
    channel_test : Option OnChannel → Bool
    channel_test None = false
    channel_test (Some x) = test x.channel

pub on_no_test : (test : ℕ → Bool) (last : Option Turn) → None ≡ on_channel_of last → false ≡ fixes_so test last
on_no_test test None is = refl
on_no_test test (Some turn) is = cc

-- where a path tells no level, nothing is to be told
pub none_told : (levels : List Bool) (last : Option Turn) → None ≡ level_of last → IsTold levels last
none_told levels None is = tt
none_told levels (Some turn) is = cc

module _ (path : Path) (given : Given) (f : Known) (known : AreRoundsKnown path given f) (m : ℕ) (there : m < length path.instance.messages) where
  least_is : IsFalse (gives_least given m) → lo_of f m ≡ round_said 0 (last_of (sets_least m) path.turns)
  least_is never = elim (known.least m there) [ inl is ↦ absurd (both_ways _ never is) | inr same ↦ same ∙ said_least path.instance path.turns m there ]

  late_is : IsFalse (gives_greatest given m) → top_of f m ≡ round_said (path.instance.cluster.horizon - 1) (last_of (sets_greatest m) path.turns) + 1
  late_is never =
      elim (known.greatest m there) [
        | inl is ↦ absurd (both_ways _ never is)
        | inr same ↦ same ∙ ap (λ r. r + 1)
            (said_greatest path.instance path.turns m there)
      ]

  -- a message that no branch and no step bounds counts where the horizon does
  within_at : (b : ℕ) (last : Option Turn) → round_said (path.instance.cluster.horizon - 1) last + 1 ≤ b → is_below b last ≡ false
      → path.instance.cluster.horizon ≤ b
  within_at b None until never = omega (arith, until)
  within_at b (Some turn) until never = absurd (false≢true (sym never ∙ lt-ltb (round_of turn.decision) b (omega (arith, until))))

  pub horizon_within : (b : ℕ) → top_of f m ≤ b → is_below b (last_of (sets_greatest m) path.turns) ≡ false → IsFalse (gives_greatest given m)
      → nat_le path.instance.cluster.horizon b ≡ true
  horizon_within b until never no_step =
      le-leb path.instance.cluster.horizon b (within_at b (last_of (sets_greatest m) path.turns) (omega (arith, until, late_is no_step)) never)

  from_at : (a : ℕ) (last : Option Turn) → 1 ≤ a → a ≤ round_said 0 last → is_from a last ≡ true
  from_at a None some from = absurd (omega (arith, some, from))
  from_at a (Some turn) some from = le-leb a (round_of turn.decision) from

  pub begins_there : (a : ℕ) → 1 ≤ a → a ≤ lo_of f m → IsFalse (gives_least given m) → is_from a (last_of (sets_least m) path.turns) ≡ true
  begins_there a some from no_step = from_at a (last_of (sets_least m) path.turns) some (omega (arith, from, least_is no_step))

  pub first_said : (k : ℕ) → IsFalse (gives_least given m) → top_of f k ≤ lo_of f m → top_of f k ≤ round_said 0 (last_of (sets_least m) path.turns)
  first_said k no_step before = omega (arith, before, least_is no_step)

  -- what keeps the message out of round r
  is_later_at : (r : ℕ) (last : Option Turn) → r < round_said 0 last → is_behind r last ≡ true
  is_later_at r None later = absurd (omega (arith, later))
  is_later_at r (Some turn) later = lt-ltb r (round_of turn.decision) later

  later_round : (r : ℕ) (last : Option Turn) → is_behind r last ≡ true → r < round_said 0 last
  later_round r None is = absurd (false≢true is)
  later_round r (Some turn) is = ltb-true r (round_of turn.decision) is

  pub later_is_known : (r : ℕ) → r < lo_of f m → IsTrue (gives_least given m) ⊎ IsFalse (is_behind r (last_of (sets_least m) path.turns))
      → IsTrue (gives_least given m)
  later_is_known r later some = elim (cases_Bool (gives_least given m)) [
    | inl is ↦ is
    | inr never ↦ elim some [
      | inl is ↦ is
      | inr not_behind ↦ absurd (both_ways _ not_behind (is_later_at r (last_of (sets_least m) path.turns) (omega (arith, later, least_is never))))
    ]
  ]

  pub is_not_earlier : (r : ℕ) → IsFalse (gives_least given m) → IsTrue (is_behind r (last_of (sets_least m) path.turns)) → lo_of f m ≤ r → ⊥
  is_not_earlier r never behind early = omega (arith, early, least_is never, later_round r (last_of (sets_least m) path.turns) behind)

  ends_at : (levels : List Bool) (r : ℕ) (last : Option Turn) → round_said (path.instance.cluster.horizon - 1) last + 1 ≤ r → is_below r last ≡ false
      → IsTold levels last
  ends_at levels r None until never = tt
  ends_at levels r (Some turn) until never = absurd (false≢true (sym never ∙ lt-ltb (round_of turn.decision) r (omega (arith, until))))

  pub earlier_is_known : (levels : List Bool) (r : ℕ) → top_of f m ≤ r → is_below r (last_of (sets_greatest m) path.turns) ≡ false
      → IsTrue (gives_greatest given m) ⊎ IsTold levels (last_of (sets_greatest m) path.turns)
  earlier_is_known levels r early never = elim (cases_Bool (gives_greatest given m)) [
    | inl is ↦ inl is
    | inr no_step ↦ inr (ends_at levels r (last_of (sets_greatest m) path.turns) (omega (arith, early, late_is no_step)) never)
  ]

-- a message that counts on a channel is fixed so by the path, or is to be on both
on_both_at : (i : Instance) (k m : ℕ) → 2 ≤ i.cluster.channels → is_fixed_on k (root_channel i m) ≡ true → (message_at i m).both ≡ true
on_both_at i k m some is = elim (cases_Bool (message_at i m).both) [
  | inl both ↦ both
  | inr single ↦ elim (eqb_tells i.cluster.channels 1) [
    | inl one ↦ absurd (omega (arith, some, one.1))
    | inr more ↦ absurd (false≢true (rw (more.0, single) at is))
  ]
]

counted_at : (i : Instance) (k m : ℕ) (last : Option Turn) → 2 ≤ i.cluster.channels → is_fixed_on k (channel_said (root_channel i m) last) ≡ true
    → (fixes_so (is_on k) last ≡ true) ⊎ ((last ≡ None) × ((message_at i m).both ≡ true))
counted_at i k m None some is = inr (refl, on_both_at i k m some is)
counted_at i k m (Some turn) some is = inl is

pub counts_by : (path : Path) (k m : ℕ) → m < length path.instance.messages → 2 ≤ path.instance.cluster.channels → IsTrue (counts_on (choice_of path) k m)
    → (fixes_so (is_on k) (last_of (fixes_any m) path.turns) ≡ true) ⊎ ((last_of (fixes_any m) path.turns ≡ None) × ((message_at path.instance m).both ≡ true))
counts_by path k m there some is = counted_at path.instance k m (last_of (fixes_any m) path.turns) some
    (subst (λ (x : Option ℕ). is_fixed_on k x ≡ true) (said_channel path.instance path.turns m there) is)
