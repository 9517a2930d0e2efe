-- What `tables` writes of an instance and a valid plan of it: the node tables, and then the guardian windows.
use Rattle.std.specs.Prelude.{◌≡◌, ℕ, List, ◌++◌, Option}
use Rattle.ttp_model.specs.declared.plan.Plan.{Plan as Table}
use Rattle.ttp_model.specs.Instance.{Instance}
use Rattle.medl_tables.specs.Medl.{medl_of}
use Rattle.medl_tables.specs.Text.{tables_text}
use Rattle.guardian_windows.specs.Windows.{cycle_windows}
use Rattle.guardian_windows.specs.Text.{windows_text}
use Rattle.command_streams.specs.declared.ending.End.{End}
use Rattle.command_streams.specs.Outcomes.{IsCommandAnswer, OnDone}
use Rattle.plan_commands.specs.Verdicts.{IsRefused, IsTold, IsVerified}

-- the text of a plan's tables and windows
abbrev pub loads_text : Instance → Table → List ℕ
loads_text i plan = tables_text i (medl_of i plan) ++ windows_text i (cycle_windows i plan)

-- what `tables` tells of a valid plan
abbrev pub IsLoadsText : Instance → Table → List ℕ → Type 0
IsLoadsText i plan text = text ≡ loads_text i plan

-- what `tables` answers of the bytes of an instance and of a plan, and what it writes
abbrev pub IsTablesAnswer : List ℕ → List ℕ → Option (List ℕ) → Option (List ℕ) → End → Type 0
IsTablesAnswer instance plan = IsCommandAnswer (OnDone (IsTold (IsVerified instance plan) IsLoadsText)) (IsRefused instance plan)
