-- What is right to tell of an instance and a valid plan of it.
use Rattle.std.specs.Prelude.{◌≡◌, ℕ, List, [], ◌∷◌, ◌++◌, codes, decimal}
use Rattle.ttp_model.specs.declared.plan.Plan.{Plan as Table}
use Rattle.ttp_model.specs.Instance.{Instance}
use Rattle.ttp_model.specs.Plans.{IsValid}
use Rattle.ttp_model.specs.Delays.{delay}
use Rattle.plan_format.specs.Spelling.{SpellsPlan}
use Rattle.guardian_windows.specs.Windows.{cycle_windows}
use Rattle.guardian_windows.specs.Text.{windows_text}
use Rattle.command_streams.specs.Instances.{HasInstance}

-- the bytes spell a valid plan of the instance that others state, with the plan's own delay
pub record IsPlanOf (instance bytes : List ℕ) (i : Instance) (plan : Table) : Type 0 where
  pub has_instance : HasInstance instance i
  pub spelled : SpellsPlan i bytes plan (delay i plan)
  pub valid : IsValid i plan

-- the line says that the plan is valid, and tells its delay
pub record TellsOwnDelay (instance bytes line : List ℕ) : Type 0 where
  pub problem : Instance
  pub plan : Table
  pub is : IsPlanOf instance bytes problem plan
  pub line_is : line ≡ codes "valid " ++ (decimal (delay problem plan) ++ 10 ∷ [])

-- the last of the text is that of the plan's guardian windows
pub record EndsWithWindows (instance bytes text : List ℕ) : Type 0 where
  pub problem : Instance
  pub plan : Table
  pub is : IsPlanOf instance bytes problem plan
  pub front : List ℕ
  pub ends : text ≡ front ++ windows_text problem (cycle_windows problem plan)
