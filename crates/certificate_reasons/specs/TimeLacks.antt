-- Which times and rounds are there that leave plans. Own profile.
use Rattle.std.specs.Prelude.{◌≡◌, ℕ, ◌<◌, ◌≤◌}
use Rattle.ttp_model.specs.Instance.{Instance}
use Rattle.ttp_model.specs.Names.{message_name, process_name}
use Rattle.sought_plans.specs.Dominance.{IsSentTo}
use Rattle.sought_plans.specs.Known.{Known, le_of, lo_of, top_of}
use Rattle.sought_plans.specs.Premises.{least_end}
use Rattle.certificate_reasons.specs.declared.time_lacks.TimeLack.{TimeLack}
use Rattle.certificate_reasons.specs.declared.time_lacks.TimeLack.TheVariants.{NoRound, Rounds, Window}

-- no round is left for message m
abbrev pub IsNoRound : Instance → Known → ℕ → TimeLack → Type 0
IsNoRound i f m (NoRound message) = (message.now ≡ message_name i m) × (top_of f m ≡ 0)
IsNoRound i f m _ = ⊥

-- nor for the first of the messages to process p for which none is
pub record IsNoRoundTo (i : Instance) (f : Known) (p : ℕ) (x : TimeLack) : Type 0 where
  pub message : ℕ
  pub sent : IsSentTo i p message
  pub before : (m : ℕ) → m < message → IsSentTo i p m → 1 ≤ top_of f m
  pub is : IsNoRound i f message x

-- process p can end in time
abbrev pub IsWindowLeft : Instance → Known → ℕ → TimeLack → Type 0
IsWindowLeft i f p (Window process least most) =
    (process.now ≡ process_name i p) × (least ≡ least_end i f p) × (most ≡ le_of f p) × (least ≤ most)
IsWindowLeft i f p _ = ⊥

-- message m has a round
abbrev pub IsRoundLeft : Instance → Known → ℕ → TimeLack → Type 0
IsRoundLeft i f m (Rounds message least late) =
    (message.now ≡ message_name i m) × (least ≡ lo_of f m) × (late ≡ top_of f m) × (least < late)
IsRoundLeft i f m _ = ⊥
