-- The two steps that ask for rounds are kept inside a choice where each message has one left.
use Rattle.std.proofs.Common.{◌≡◌, ℕ, ◌<◌, ◌≤◌, ◌⊎◌, length, arith, inl, inr, refl}
use Rattle.ttp_model.specs.declared.step.Step.{Step}
use Rattle.ttp_model.specs.declared.step.Step.TheVariants.{LeSend, UsSettled}
use Rattle.ttp_model.proofs.Decide.{equal, some_below}
use Rattle.sought_plans.specs.Known.{Known, top_of}
use Rattle.sought_plans.specs.Conclusions.{NothingLeft}
use Rattle.tt_infer.specs.Table.{AsksForRounds}
use Rattle.tt_infer.specs.Sharper.{MissesRound}
use Rattle.tt_infer.proofs.monotone.Nested.{Nested, AreKnown, IsKept}
use Rattle.tt_infer.proofs.monotone.Ends.{le_send_kept}
use Rattle.tt_infer.proofs.monotone.Waits.{us_settled_kept}

-- a message has no round left, or each has one
rounds_left : (s : Nested) (h : Known)
    → ((m : ℕ) × (m < length s.instance.messages) × (top_of h m ≡ 0)) ⊎ ((m : ℕ) → m < length s.instance.messages → 1 ≤ top_of h m)
rounds_left s h = elim (some_below (λ m. top_of h m ≡ 0) (length s.instance.messages) (λ m. equal (top_of h m) 0)) [
  | inl some ↦ inl some
  | inr none ↦ inr (λ m there. elim (equal (top_of h m) 0) [ inl is ↦ absurd (none (m, there, is)) | inr other ↦ omega (arith, other) ])
]

-- the closer on the rounds of a message that has none left
no_round : (s : Nested) (h : Known) (step : Step) → AsksForRounds step → (m : ℕ) × (m < length s.instance.messages) × (top_of h m ≡ 0)
    → MissesRound s.instance s.inner s.aim h step
no_round s h step asks none =
    let is = none.2 in
    record {
      asks = asks;
      message = none.0;
      none = is;
      lawful = record { there = none.1; premise = omega (arith, is); conclusion = NothingLeft; concludes = refl; known = refl };
    }

-- where a step is kept, or misses a round
abbrev pub IsServed : Nested → Known → Known → Step → Type 0
IsServed s f h step = IsKept s f h step ⊎ MissesRound s.instance s.inner s.aim h step

pub le_send_served : (s : Nested) (f h : Known) (m : ℕ) → AreKnown s f h → IsServed s f h (LeSend m)
le_send_served s f h m t = elim (rounds_left s h) [
  | inl none ↦ inr (no_round s h (LeSend m) tt none)
  | inr some ↦ inl (λ k there. le_send_kept s f h m t (some m there) k there)
]

pub us_settled_served : (s : Nested) (f h : Known) (p : ℕ) → AreKnown s f h → IsServed s f h (UsSettled p)
us_settled_served s f h p t = elim (rounds_left s h) [
  | inl none ↦ inr (no_round s h (UsSettled p) tt none)
  | inr some ↦ inl (us_settled_kept s f h p t (λ m is. some m is.0))
]
