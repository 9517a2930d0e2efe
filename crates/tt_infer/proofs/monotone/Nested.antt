-- A choice and one inside it, and what it takes that a step taken at the first serves at the second.
use Rattle.std.proofs.Common.{◌≡◌, ℕ, ◌≤◌}
use Rattle.ttp_model.specs.declared.step.Step.{Step}
use Rattle.ttp_model.specs.Instance.{Instance}
use Rattle.ttp_model.specs.Rules.{IsInstance}
use Rattle.tt_choice.specs.Choice.{Choice, IsChoice}
use Rattle.tt_choice.specs.Inside.{IsInside}
use Rattle.sought_plans.specs.Known.{Known, Fits}
use Rattle.sought_plans.specs.Conclusions.{Conclusion, StartsFrom, EndsUntil, SentFrom, SentBefore, GoesFirst, NothingLeft}
use Rattle.tt_infer.specs.Table.{rule}
use Rattle.tt_infer.specs.Sharper.{IsSharper}

-- a choice with a goal, and a choice inside it with a goal no larger
pub record Nested : Type 0 where
  pub instance : Instance
  pub outer : Choice
  pub goal : ℕ
  pub inner : Choice
  pub aim : ℕ
  pub is_instance : IsInstance instance
  pub is_choice : IsChoice instance outer
  pub is_inner_choice : IsChoice instance inner
  pub inside : IsInside instance inner outer
  pub no_larger : aim ≤ goal

-- f is known of the first, and h of the second, which is at least as much
pub record AreKnown (s : Nested) (f h : Known) : Type 0 where
  pub fits : Fits s.instance f
  pub inner_fits : Fits s.instance h
  pub sharper : IsSharper f h
  pub closed : h.closed ≡ f.closed

-- a conclusion says at least as much as another of the same kind
abbrev pub IsStronger : Conclusion → Conclusion → Type 0
IsStronger (StartsFrom p late) other = (early : ℕ) × (other ≡ StartsFrom p early) × (early ≤ late)
IsStronger (EndsUntil p early) other = (late : ℕ) × (other ≡ EndsUntil p late) × (early ≤ late)
IsStronger (SentFrom m late) other = (early : ℕ) × (other ≡ SentFrom m early) × (early ≤ late)
IsStronger (SentBefore m early) other = (late : ℕ) × (other ≡ SentBefore m late) × (early ≤ late)
IsStronger (GoesFirst p q) other = other ≡ GoesFirst p q
IsStronger NothingLeft other = other ≡ NothingLeft

-- a step is lawful inside, and concludes at least as much as k
pub record IsMatched (s : Nested) (h : Known) (step : Step) (k : Conclusion) : Type 0 where
  pub there : (rule s.instance s.inner s.aim h step).there
  pub premise : (rule s.instance s.inner s.aim h step).premise
  pub conclusion : Conclusion
  pub concludes : (rule s.instance s.inner s.aim h step).concludes conclusion
  pub stronger : IsStronger conclusion k

-- what a step concludes outside it concludes inside too, or more
abbrev pub IsKept : Nested → Known → Known → Step → Type 0
IsKept s f h step =
    (k : Conclusion) → (rule s.instance s.outer s.goal f step).there → (rule s.instance s.outer s.goal f step).premise → (rule s.instance s.outer s.goal f step).concludes k → IsMatched s h step k
