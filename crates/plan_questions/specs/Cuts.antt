-- Instances that are cut by a number, of which the least is sought with which there is a plan. Own profile.
use Rattle.std.specs.Prelude.{◌≡◌, ℕ, ◌+◌, ◌-◌, ◌/◌, ◌<◌, ◌≤◌, Option, None, Some}
use Rattle.ttp_model.specs.declared.plan.Plan.{Plan}
use Rattle.ttp_model.specs.Instance.{Instance}
use Rattle.ttp_model.specs.Rules.{IsInstance}
use Rattle.ttp_model.specs.Plans.{IsValid}
use Rattle.ttp_model.specs.Delays.{HasNoPlan}
use Rattle.certificate.specs.Cert.{Cert}
use Rattle.planner.specs.outcome.Options.{Options}
use Rattle.plan_questions.specs.declared.cuts.LeastNumber.{LeastNumber}
use Rattle.plan_questions.specs.declared.cuts.LeastNumber.TheVariants.{Exact, Apart, Open, Never}
use Rattle.plan_questions.specs.Searches.{IsLeftOpen, IsShown}

-- the instance with each number, the number by which a plan is measured, one that no plan is below, and the greatest that is asked for
pub record Cutting : Type 0 where
  pub at : ℕ → Instance
  pub measure : Plan → ℕ
  pub least : ℕ
  pub most : ℕ

-- a plan that is valid with some number is valid with just those from its measure on
pub record IsCutting (c : Cutting) : Type 0 where
  pub rules : (x : ℕ) → c.least ≤ x → IsInstance (c.at x)
  pub most_rules : IsInstance (c.at c.most)
  pub within : (plan : Plan) (x : ℕ) → IsValid (c.at x) plan → c.measure plan ≤ x
  pub moves : (plan : Plan) (x y : ℕ) → IsValid (c.at x) plan → c.measure plan ≤ y → IsValid (c.at y) plan
  pub lower : (x : ℕ) → x < c.least → HasNoPlan (c.at x)

-- a number half way between two, below the greater one
abbrev pub middle : ℕ → ℕ → ℕ
middle low high = low + (high - low) / 2

-- there is no plan with a smaller number
abbrev pub IsNoneBelow : Cutting → ℕ → Type 0
IsNoneBelow c low = (x : ℕ) → x < low → HasNoPlan (c.at x)

-- there is this plan with a number, by which it is measured
pub record IsPlanAt (c : Cutting) (x : ℕ) (plan : Plan) : Type 0 where
  pub valid : IsValid (c.at x) plan
  pub measured : c.measure plan ≡ x

-- a search with one less said that there is none, with this certificate
pub record IsShownBefore (c : Cutting) (options : Options) (x : ℕ) (cert : Cert) : Type 0 where
  pub before : ℕ
  pub next : before + 1 ≡ x
  pub shown : IsShown (c.at before) options cert

-- what shows that there is none with one less: a certificate, unless no plan is below it anyway
abbrev pub IsShownBelow : Cutting → Options → ℕ → Option Cert → Type 0
IsShownBelow c options x None = x ≡ c.least
IsShownBelow c options x (Some cert) = IsShownBefore c options x cert

-- there is one with this number, and none with a smaller one, as this shows
pub record IsExact (c : Cutting) (options : Options) (x : ℕ) (plan : Plan) (below : Option Cert) : Type 0 where
  pub plan_at : IsPlanAt c x plan
  pub lower : IsNoneBelow c x
  pub shown : IsShownBelow c options x below

-- there is none with fewer than low, and this one with high; a search half way was stopped
pub record IsApart (c : Cutting) (options : Options) (low high : ℕ) (plan : Plan) (cert : Cert) : Type 0 where
  pub least : c.least ≤ low
  pub lower : IsNoneBelow c low
  pub apart : low < high
  pub plan_at : IsPlanAt c high plan
  pub answer : IsLeftOpen (c.at (middle low high)) options cert

-- what is answered: of the least number, and where no plan is known, of a search with the greatest
abbrev pub IsLeastNumber : Cutting → Options → LeastNumber → Type 0
IsLeastNumber c options (Exact number plan below) = IsExact c options number plan below
IsLeastNumber c options (Apart low high plan cert) = IsApart c options low high plan cert
IsLeastNumber c options (Open cert) = IsLeftOpen (c.at c.most) options cert
IsLeastNumber c options (Never cert) = IsShown (c.at c.most) options cert
