-- What is answered of some processes that are to run longer, all at once: their greatest margin, or bounds of it. Own profile.
use Rattle.std.specs.Prelude.{ℕ, ◌+◌, ◌-◌, ◌/◌, ◌<◌, List, length}
use Rattle.ttp_model.specs.declared.plan.Plan.{Plan}
use Rattle.ttp_model.specs.Lists.{IsFirstFailure}
use Rattle.ttp_model.specs.Instance.{Instance}
use Rattle.ttp_model.specs.Rules.{IsInstance}
use Rattle.ttp_model.specs.Plans.{IsValid}
use Rattle.ttp_model.specs.Delays.{HasNoPlan}
use Rattle.certificate.specs.Cert.{Cert}
use Rattle.planner.specs.outcome.Options.{Options}
use Rattle.plan_questions.specs.Searches.{IsShown, WasStopped}
use Rattle.instance_variants.specs.declared.scale.Scale.{Scale}
use Rattle.instance_variants.specs.Longer.{HasRoom, IsGreatestMargin, longer, own_margin}
use Rattle.plan_questions.specs.Cuts.{Cutting}
use Rattle.plan_questions.specs.declared.margins.answer.Margin.{Margin}
use Rattle.plan_questions.specs.declared.margins.answer.Margin.TheVariants.{Greatest, Window, Between, Unknown, Never}

-- the instance in which these processes run longer, the less the greater the number, plans by what they lack of the most that there is room for
abbrev pub margin_cutting : Instance → List ℕ → Scale → ℕ → Cutting
margin_cutting i ps scale most = record {
  at = λ n. longer i ps scale (most - n);
  measure = λ plan. most - own_margin i ps scale plan most;
  least = 0;
  most = most;
}

-- no plan is valid where they run longer with more than this
abbrev pub IsNoneAbove : Instance → List ℕ → Scale → ℕ → Type 0
IsNoneAbove i ps scale high = (x : ℕ) → high < x → HasNoPlan (longer i ps scale x)

-- a plan is valid, and stays so where they run longer with x, but not with one more
pub record StaysValid (i : Instance) (ps : List ℕ) (scale : Scale) (x : ℕ) (plan : Plan) : Type 0 where
  pub valid : IsValid i plan
  pub stays : IsValid (longer i ps scale x) plan
  pub no_more : ¬ IsValid (longer i ps scale (x + 1)) plan

-- The greatest margin, and a plan that has it; with one more all rules are kept, and a search said that there is no plan.
pub record IsGreatest (i : Instance) (ps : List ℕ) (scale : Scale) (options : Options) (x : ℕ) (plan : Plan) (cert : Cert) : Type 0 where
  pub greatest : IsGreatestMargin i ps scale x
  pub own : StaysValid i ps scale x plan
  pub lawful : IsInstance (longer i ps scale (x + 1))
  pub shown : IsShown (longer i ps scale (x + 1)) options cert

-- The greatest margin, and a plan that has it; this process is the first that has no room for one more.
pub record IsWindow (i : Instance) (ps : List ℕ) (scale : Scale) (x process : ℕ) (plan : Plan) : Type 0 where
  pub greatest : IsGreatestMargin i ps scale x
  pub own : StaysValid i ps scale x plan
  pub full : IsFirstFailure (length i.processes) (HasRoom i ps scale (x + 1)) process

-- This plan has low, and there is none with more than high; a search half way was stopped before it found one.
pub record IsBetween (i : Instance) (ps : List ℕ) (scale : Scale) (options : Options) (low high : ℕ) (plan : Plan) : Type 0 where
  pub apart : low < high
  pub own : StaysValid i ps scale low plan
  pub none : IsNoneAbove i ps scale high
  pub stopped : WasStopped (longer i ps scale (high - (high - low) / 2)) options

-- There is none with more than high; the search for any plan was stopped before it found one.
pub record IsUnknown (i : Instance) (ps : List ℕ) (scale : Scale) (options : Options) (high : ℕ) : Type 0 where
  pub none : IsNoneAbove i ps scale high
  pub stopped : WasStopped (longer i ps scale 0) options

-- what is answered
abbrev pub IsMargin : Instance → List ℕ → Scale → Options → Margin → Type 0
IsMargin i ps scale options (Greatest margin plan cert) = IsGreatest i ps scale options margin plan cert
IsMargin i ps scale options (Window margin process plan) = IsWindow i ps scale margin process plan
IsMargin i ps scale options (Between low high plan) = IsBetween i ps scale options low high plan
IsMargin i ps scale options (Unknown high) = IsUnknown i ps scale options high
IsMargin i ps scale options Never = HasNoPlan i
