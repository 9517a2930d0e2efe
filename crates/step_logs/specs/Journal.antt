-- What is known of the plans that are sought, with a log of the steps that sharpened it.
use Rattle.std.specs.Prelude.{◌≡◌, ℕ, ◌+◌, ◌-◌, ◌<◌, List, ◌++◌, sum_by, Bool, if◌then◌else◌, IsFalse}
use Rattle.ttp_model.specs.declared.step.Step.{Step}
use Rattle.ttp_model.specs.Instance.{Instance}
use Rattle.tt_infer.specs.Known.{Known}
use Rattle.tt_infer.specs.Facts.{Facts, after}
use Rattle.tt_infer.specs.Table.{IsLawful}
use Rattle.tt_infer.specs.Leaves.{LeadSharply}

-- what is known, and the steps so far
pub record Journal : Type 0 where
  pub facts : Facts
  pub steps : List Step

-- lawful steps were appended, each of which sharpens what is known: it is what they lead to
pub record Advances (old new : Journal) : Type 0 where
  pub more : List Step
  pub facts : new.facts ≡ after old.facts new.facts.known
  pub steps : new.steps ≡ old.steps ++ more
  pub lead : LeadSharply old.facts.instance old.facts.choice old.facts.goal old.facts.known more new.facts.known

-- How much could still be sharpened: the ticks, rounds and orders that are not ruled out. Each step of
-- a log lowers it.
abbrev pub slack : Instance → Known → ℕ
slack i f =
    sum_by (λ time. i.cluster.horizon + 1 - time) f.es + sum_by (λ (time : ℕ). time) f.le
    + sum_by (λ r. i.cluster.horizon + 1 - r) f.lo + sum_by (λ (r : ℕ). r) f.top
    + sum_by (λ (test : Bool). if test then 0 else 1) f.bef.tests + (if f.closed then 0 else 1)

-- so of what is known in an inference
abbrev pub slack_of : Facts → ℕ
slack_of s = slack s.instance s.known

-- a lawful step that sharpens what is known
pub record Sharpens (s : Facts) (step : Step) (g : Known) : Type 0 where
  pub open_before : IsFalse s.known.closed
  pub lawful : IsLawful s.instance s.choice s.goal s.known step g
  pub falls : slack s.instance g < slack s.instance s.known

-- a step that sharpens nothing: where it is lawful, it leaves what is known
pub record SharpensNothing (s : Facts) (step : Step) : Type 0 where
  pub leaves : IsFalse s.known.closed → (g : Known)
      → IsLawful s.instance s.choice s.goal s.known step g → g ≡ s.known
