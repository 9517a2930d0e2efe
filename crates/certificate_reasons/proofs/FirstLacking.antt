-- The first that lacks among several.
use Rattle.std.proofs.Common.{◌≡◌, ◌↔◌, ℕ, ◌<◌, ◌≤◌, Bool, false, IsTrue, arith, inl, inr}
use Rattle.std.proofs.lemmas.Bool.{both_ways, cases_lt}
use Rattle.ttp_model.specs.Instance.{Instance}
use Rattle.sought_plans.specs.Dominance.{IsSentTo}
use Rattle.sought_plans.specs.Known.{Known, top_of}
use Rattle.certificate_reasons.specs.declared.time_lacks.TimeLack.{TimeLack}
use Rattle.certificate_reasons.specs.TimeLacks.{IsNoRound, IsNoRoundTo}

pub message_at : (i : Instance) (f : Known) (p m : ℕ) (x : TimeLack) → IsSentTo i p m
    → ((k : ℕ) → k < m → IsSentTo i p k → 1 ≤ top_of f k) → IsNoRound i f m x → IsNoRoundTo i f p x
message_at i f p m x sent before is = record { message = m; sent = sent; before = before; is = is }

-- a round is left for a message where it isn't so that none is
pub round_left : (i : Instance) (f : Known) (p m : ℕ) (none : Bool) → (IsTrue none ↔ (IsSentTo i p m × (top_of f m ≡ 0))) → none ≡ false
    → IsSentTo i p m → 1 ≤ top_of f m
round_left i f p m none is some sent = elim (cases_lt 0 (top_of f m)) [
  | inl left ↦ omega (arith, left)
  | inr past ↦ absurd (both_ways _ some (is.1 (sent, omega (arith, past))))
]
