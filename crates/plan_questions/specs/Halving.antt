-- How what is known of the least number comes together. Private contracts alone cite this.
use Rattle.std.specs.Prelude.{◌<◌, ◌≤◌}
use Rattle.certificate.specs.Cert.{Cert}
use Rattle.planner.specs.outcome.Options.{Options}
use Rattle.plan_questions.specs.declared.cuts.Known.{Known}
use Rattle.plan_questions.specs.Searches.{IsLeftOpen}
use Rattle.plan_questions.specs.Cuts.{Cutting, IsNoneBelow, IsPlanAt, IsShownBelow, middle}

-- there is no plan with fewer than low, as a search with one less said, and this one with high
pub record IsKnown (c : Cutting) (options : Options) (known : Known) : Type 0 where
  pub least : c.least ≤ known.low
  pub lower : IsNoneBelow c known.low
  pub shown : IsShownBelow c options known.low known.below
  pub plan_at : IsPlanAt c known.high known.plan

-- a search half way between was stopped before it found a plan
pub record IsOpenAt (c : Cutting) (options : Options) (known : Known) (cert : Cert) : Type 0 where
  pub apart : known.low < known.high
  pub answer : IsLeftOpen (c.at (middle known.low known.high)) options cert
