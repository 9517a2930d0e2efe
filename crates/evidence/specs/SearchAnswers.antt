-- What is right to write of a search.
use Rattle.std.specs.Prelude.{◌≡◌, ◌⊎◌, ℕ, List, ◌++◌, None, Some}
use Rattle.ttp_model.specs.declared.plan.Plan.{Plan as Table}
use Rattle.ttp_model.specs.Instance.{Instance}
use Rattle.plan_format.specs.Spelling.{SpellsPlan}
use Rattle.certificate.specs.Cert.{Cert}
use Rattle.certificate.specs.Spelling.{SpellsCert}
use Rattle.planner.specs.outcome.Why.{Why}
use Rattle.command_streams.specs.Instances.{HasInstance}
use Rattle.solve_command.specs.Solved.{stopped_line}

-- the text is that of a certificate
pub record IsCertificate (text : List ℕ) : Type 0 where
  pub cert : Cert
  pub spelled : SpellsCert text cert

-- behind the line that tells its delay stands a plan
pub record HasPlanBehind (i : Instance) (why : Why) (low : ℕ) (text : List ℕ) : Type 0 where
  pub plan : Table
  pub ticks : ℕ
  pub written : List ℕ
  pub spelled : SpellsPlan i written plan ticks
  pub text_is : text ≡ stopped_line None why low (Some ticks) ++ written

-- the line tells that no plan was found, or the plan stands behind it
pub record StopsWithPlan (instance text : List ℕ) : Type 0 where
  pub problem : Instance
  pub has_instance : HasInstance instance problem
  pub why : Why
  pub low : ℕ
  pub is : (text ≡ stopped_line None why low None) ⊎ HasPlanBehind problem why low text
