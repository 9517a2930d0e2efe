-- When constraints are among others, and when plans are left. Own profile.
use Rattle.std.specs.Prelude.{ℕ, List, Bool, IsTrue}
use Rattle.ttp_model.specs.declared.plan.Plan.{Plan}
use Rattle.ttp_model.specs.Instance.{Instance}
use Rattle.ttp_model.specs.Plans.{IsValid}
use Rattle.instance_variants.specs.declared.kept.constraints.Constraints.{Constraints}
use Rattle.ttp_model.specs.Lists.{is_set}

-- each flag that is set is set among the others
abbrev pub AreSetAmong : List Bool → List Bool → Type 0
AreSetAmong flags others = (place : ℕ) → IsTrue (is_set flags place) → IsTrue (is_set others place)

-- each constraint that is kept is kept among the others
pub record AreAmong (fewer more : Constraints) : Type 0 where
  pub horizon : IsTrue fewer.horizon → IsTrue more.horizon
  pub deadlines : AreSetAmong fewer.deadlines more.deadlines
  pub releases : AreSetAmong fewer.releases more.releases
  pub links : AreSetAmong fewer.links more.links
  pub messages : AreSetAmong fewer.messages more.messages
  pub both : AreSetAmong fewer.both more.both

-- some plan is valid
pub record HasPlan (i : Instance) : Type 0 where
  pub plan : Plan
  pub valid : IsValid i plan
