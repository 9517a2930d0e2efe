-- What is answered of an instance without a plan: how many ticks later all has to end for there to be one. Own profile.
use Rattle.std.specs.Prelude.{ℕ, ◌<◌, ◌≤◌}
use Rattle.ttp_model.specs.declared.plan.Plan.{Plan}
use Rattle.ttp_model.specs.Limits.{most_ticks}
use Rattle.ttp_model.specs.Instance.{Instance}
use Rattle.ttp_model.specs.Plans.{IsValid}
use Rattle.ttp_model.specs.Delays.{HasNoPlan}
use Rattle.planner.specs.outcome.Options.{Options}
use Rattle.plan_questions.specs.Searches.{WasStopped}
use Rattle.instance_variants.specs.Later.{later}
use Rattle.instance_variants.specs.Lateness.{IsLeastLateness, lateness}
use Rattle.plan_questions.specs.Cuts.{Cutting, middle}
use Rattle.plan_questions.specs.declared.late.answer.Lateness.{Lateness}
use Rattle.plan_questions.specs.declared.late.answer.Lateness.TheVariants.{Least, Between, Unknown, Never}

-- the instance with all ends some ticks later, plans by how much they are late, and 1, since as it is it has none
abbrev pub late_cutting : Instance → Cutting
late_cutting i = record { at = later i; measure = lateness i; least = 1; most = most_ticks }

-- there is no plan where all ends are fewer ticks later
abbrev pub IsNoneBelow : Instance → ℕ → Type 0
IsNoneBelow i low = (x : ℕ) → x < low → HasNoPlan (later i x)

-- there is none with fewer than low, and this one with high; a search half way was stopped
pub record IsBetween (i : Instance) (options : Options) (low high : ℕ) (plan : Plan) : Type 0 where
  pub lower : IsNoneBelow i low
  pub apart : low < high
  pub valid : IsValid (later i high) plan
  pub stopped : WasStopped (later i (middle low high)) options

-- there is none with fewer than low, nor as it is; a search with all ends as late as can be said was stopped
pub record IsUnknown (i : Instance) (options : Options) (low : ℕ) : Type 0 where
  pub least : 1 ≤ low
  pub lower : IsNoneBelow i low
  pub stopped : WasStopped (later i most_ticks) options

-- what is answered
abbrev pub IsLateness : Instance → Options → Lateness → Type 0
IsLateness i options (Least late plan) = IsLeastLateness i late × IsValid (later i late) plan
IsLateness i options (Between low high plan) = IsBetween i options low high plan
IsLateness i options (Unknown low) = IsUnknown i options low
IsLateness i options Never = (x : ℕ) → HasNoPlan (later i x)
