-- Why loads and traces are refused: as `verify` is, or for the number of slots, or for a node's name.
use Rattle.std.proofs.Common.{◌≡◌, ℕ, List, Option, None, Some, IfSome, subst}
use Rattle.schedule_exports.specs.declared.export.Export.{Export}
use Rattle.plan_commands.specs.declared.verdict.Verified.{Verified}
use Rattle.command_streams.specs.declared.ending.Fault.{Fault}
use Rattle.command_streams.specs.declared.ending.Fault.TheVariants.{LongSchedule, Memory, NoSuchNode}
use Rattle.command_streams.specs.declared.ending.End.{End}
use Rattle.command_streams.specs.declared.ending.End.TheVariants.{Refused}
use Rattle.command_streams.specs.Outcomes.{IsCommandAnswer, OnDone}
use Rattle.plan_commands.specs.Exported.{IsExportAnswer, IsExportRefused, IsUnexported, TellsExport}
use Rattle.plan_commands.specs.Printed.{IsPrinted, IsUnprinted}
use Rattle.plan_commands.specs.Verdicts.{IsTold}
use Rattle.plan_commands.proofs.Tellings.{answered, refused_outcome}

-- what is said of bytes that were read is so of all that a reader had
pub of_all : (Says : List ℕ → Type 0) (known : Option (List ℕ)) (read : List ℕ) → IfSome known (λ bytes. read ≡ bytes) → Says read → IfSome known Says
of_all Says None read all says = tt
of_all Says (Some bytes) read all says = subst Says all says

module _ (export : Export) (instance plan : List ℕ) where
  as_exported : (fault : Fault) → IsUnprinted instance plan fault → IsExportRefused export instance plan fault
  as_exported (LongSchedule count) refused = absurd refused
  as_exported NoSuchNode refused = absurd refused
  as_exported fault refused = refused

-- so it is of what two readers tell, where they do
module _ (export : Export) (old : Option (List ℕ)) where
  pub unexported : (a b : Option (List ℕ)) (fault : Fault) → IfSome a (λ instance. IfSome b (λ plan. IsUnprinted instance plan fault))
      → IfSome a (λ instance. IfSome b (λ plan. IsExportAnswer export instance plan old old (Refused fault)))
  unexported None b fault refused = tt
  unexported (Some instance) None fault refused = tt
  unexported (Some instance) (Some plan) fault refused =
      refused_outcome (OnDone (IsTold (IsPrinted instance plan) (TellsExport export))) (IsExportRefused export instance plan) (λ never. never) old fault
      (as_exported export instance plan fault refused)

module _ (export : Export) where
  untold_for : (instance plan : List ℕ) (v : Verified) → IsPrinted instance plan v → (fault : Fault) → IsUnexported export v.instance v.plan fault
      → IsExportRefused export instance plan fault
  untold_for instance plan v is Memory why = tt
  untold_for instance plan v is (LongSchedule count) why = record { verified = v; is = is; why = why }
  untold_for instance plan v is NoSuchNode why = record { verified = v; is = is; why = why }
  untold_for instance plan v is fault why = absurd why

  pub exported_of_readers : (a b : Option (List ℕ)) (v : Verified) (old new : Option (List ℕ)) (end : End)
      → IfSome a (λ instance. IfSome b (λ plan. IsPrinted instance plan v))
      → IsCommandAnswer (OnDone (TellsExport export v.instance v.plan)) (IsUnexported export v.instance v.plan) old new end
      → IfSome a (λ instance. IfSome b (λ plan. IsExportAnswer export instance plan old new end))
  exported_of_readers None b v old new end is told = tt
  exported_of_readers (Some instance) None v old new end is told = tt
  exported_of_readers (Some instance) (Some plan) v old new end is told =
      answered (TellsExport export v.instance v.plan) (IsTold (IsPrinted instance plan) (TellsExport export))
      (λ text tells. record { verified = v; is = is; tells = tells })
      (IsUnexported export v.instance v.plan) (IsExportRefused export instance plan) (untold_for instance plan v is) old new end told
