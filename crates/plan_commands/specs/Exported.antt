-- What `schedule` writes of an instance and a valid plan of it for a program, a build or a viewer: what nodes are loaded with, or a trace.
use Rattle.std.specs.Prelude.{◌≡◌, ℕ, ◌<◌, ◌≤◌, List, Option}
use Rattle.ttp_model.specs.declared.plan.Plan.{Plan as Table}
use Rattle.ttp_model.specs.Instance.{Instance}
use Rattle.schedule_exports.specs.declared.export.Export.{Export}
use Rattle.schedule_exports.specs.declared.export.ExportFault.TheVariants as export_fault
use Rattle.schedule_exports.specs.Exports.{IsExportFault, IsExportText}
use Rattle.plan_commands.specs.declared.verdict.Verified.{Verified}
use Rattle.command_streams.specs.declared.ending.Fault.{Fault}
use Rattle.command_streams.specs.declared.ending.Fault.TheVariants.{LongSchedule, Memory, NoSuchNode}
use Rattle.command_streams.specs.declared.ending.End.{End}
use Rattle.command_streams.specs.Outcomes.{IsCommandAnswer, OnDone}
use Rattle.plan_commands.specs.Printed.{IsPrinted, IsUnprinted}
use Rattle.plan_commands.specs.Verdicts.{IsTold}

-- what `schedule` tells of a valid plan in such a form: a text of it, of no more slots than may be and of a node that is there
abbrev pub TellsExport : Export → Instance → Table → List ℕ → Type 0
TellsExport export i plan text = IsExportText i plan export text

-- why there is no such text of a valid plan
abbrev pub IsUnexported : Export → Instance → Table → Fault → Type 0
IsUnexported export i plan Memory = Unit {0}
IsUnexported export i plan (LongSchedule count) = IsExportFault i plan export (export_fault.TooManySlots count)
IsUnexported export i plan NoSuchNode = IsExportFault i plan export export_fault.NoSuchNode
IsUnexported export i plan _ = ⊥

-- an instance and a printed plan are verified, and there is no such text of them for this
pub record IsUntoldFor (export : Export) (instance plan : List ℕ) (fault : Fault) : Type 0 where
  pub verified : Verified
  pub is : IsPrinted instance plan verified
  pub why : IsUnexported export verified.instance verified.plan fault

-- why it is refused: as `verify` is, but for what a search printed in front of the plan, and then for slots or a node's name
abbrev pub IsExportRefused : Export → List ℕ → List ℕ → Fault → Type 0
IsExportRefused export instance plan (LongSchedule count) = IsUntoldFor export instance plan (LongSchedule count)
IsExportRefused export instance plan NoSuchNode = IsUntoldFor export instance plan NoSuchNode
IsExportRefused export instance plan fault = IsUnprinted instance plan fault

-- what is answered of the bytes of an instance and of a plan, and what is written
abbrev pub IsExportAnswer : Export → List ℕ → List ℕ → Option (List ℕ) → Option (List ℕ) → End → Type 0
IsExportAnswer export instance plan =
    IsCommandAnswer (OnDone (IsTold (IsPrinted instance plan) (TellsExport export))) (IsExportRefused export instance plan)
