-- What a search says at its end.
use Rattle.std.specs.Prelude.{◌≡◌, ℕ, ◌+◌, ◌<◌, ◌≤◌, ◌⊎◌, Option, None, Some}
use Rattle.ttp_model.specs.Instance.{Instance}
use Rattle.certificate.specs.Cert.{Cert}
use Rattle.search_workers.specs.declared.found.FoundPlan.{FoundPlan}
use Rattle.search_workers.specs.declared.outcome.Outcome.{Outcome}
use Rattle.search_workers.specs.declared.outcome.Outcome.TheVariants.{Optimal, Infeasible, Stopped}
use Rattle.search_workers.specs.declared.outcome.Why.{Why}
use Rattle.search_workers.specs.declared.outcome.Why.TheVariants.{Gap}
use Rattle.search_workers.specs.Searching.{limit_of}

-- the answer of a search at its end
abbrev pub IsAnswerOf : Instance → Why → Option FoundPlan → ℕ → Cert → Outcome → Type 0
IsAnswerOf i why best low cert (Optimal plan ticks own) =
    (best ≡ Some (record { plan = plan; delay = ticks })) × (low ≡ ticks) × (own ≡ cert)
IsAnswerOf i why best low cert (Infeasible own) = (best ≡ None) × (low ≡ limit_of i best) × (own ≡ cert)
IsAnswerOf i why best low cert (Stopped cause bound found own) =
    (low < limit_of i best) × (cause ≡ why) × (bound ≡ low) × (found ≡ best) × (own ≡ cert)

-- the best plan takes no more ticks above the bound than the gap
abbrev pub IsNear : ℕ → ℕ → Option FoundPlan → Type 0
IsNear gap low None = ⊥
IsNear gap low (Some best) = best.delay ≤ low + gap

-- it takes more, or there is none
abbrev pub IsFar : ℕ → ℕ → Option FoundPlan → Type 0
IsFar gap low None = Unit {0}
IsFar gap low (Some best) = low + gap < best.delay

-- why a search stopped that ended for a reason: by the gap where the best plan is near
abbrev pub IsCauseTold : Why → ℕ → ℕ → Option FoundPlan → Why → Type 0
IsCauseTold why gap low best cause = (IsNear gap low best × (cause ≡ Gap)) ⊎ (IsFar gap low best × (cause ≡ why))
