-- What `schedule` writes of an instance and a valid plan of it: one table.
use Rattle.std.specs.Prelude.{◌≡◌, ℕ, List, Option}
use Rattle.ttp_model.specs.declared.plan.Plan.{Plan}
use Rattle.ttp_model.specs.Instance.{Instance}
use Rattle.plan_sheets.specs.declared.table.Table.{Table}
use Rattle.plan_sheets.specs.Tables.{table_text}
use Rattle.command_streams.specs.declared.ending.End.{End}
use Rattle.command_streams.specs.Outcomes.{IsCommandAnswer, OnDone}
use Rattle.plan_commands.specs.Printed.{IsPrinted, IsUnprinted}
use Rattle.plan_commands.specs.Verdicts.{IsTold}

-- what `schedule` tells of a valid plan: the text of this table
abbrev pub IsTableText : Table → Instance → Plan → List ℕ → Type 0
IsTableText table i plan text = text ≡ table_text i plan table

-- what `schedule` answers of the bytes of an instance and of a plan, and what it writes
abbrev pub IsScheduleAnswer : Table → List ℕ → List ℕ → Option (List ℕ) → Option (List ℕ) → End → Type 0
IsScheduleAnswer table instance plan = IsCommandAnswer (OnDone (IsTold (IsPrinted instance plan) (IsTableText table))) (IsUnprinted instance plan)
