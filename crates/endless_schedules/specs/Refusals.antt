-- Why the instance of a cycle is refused.
use Rattle.std.specs.Prelude.{◌≡◌, ◌≢◌}
use Rattle.ttp_model.specs.declared.error.ModelError.TheVariants as model
use Rattle.ttp_model.specs.Refusals.{IsRefusal}
use Rattle.rates_model.specs.Rates.{Rates}
use Rattle.endless_schedules.specs.declared.unrolling.Unrollable.{Unrollable}
use Rattle.endless_schedules.specs.declared.unrolling.UnrollFault.{UnrollFault}
use Rattle.endless_schedules.specs.declared.unrolling.UnrollFault.TheVariants.{TooMany, Refused, OutOfMemory}
use Rattle.endless_schedules.specs.declared.fault.TableFault.{TableFault}
use Rattle.endless_schedules.specs.declared.fault.TableFault.TheVariants as fault
use Rattle.ttp_model.specs.Parts.{instance_of}
use Rattle.endless_schedules.specs.Unrolled.{unrolled}

-- these are its tables, and it is refused for this
pub record IsRefused (rho : Rates) (refused : Unrollable) : Type 0 where
  pub tables : instance_of refused.tables ≡ unrolled rho
  pub refusal : IsRefusal (unrolled rho) refused.error
  pub other : refused.error ≢ model.OutOfMemory

-- why there is none: a list is too long, or a rule is broken; else want of memory
abbrev pub IsUnrollFault : Rates → UnrollFault → Type 0
IsUnrollFault rho (TooMany part) = IsRefusal (unrolled rho) (model.Length part)
IsUnrollFault rho (Refused refused) = IsRefused rho refused
IsUnrollFault rho OutOfMemory = Unit {0}

-- what is told where there are no tables
abbrev pub told : TableFault → UnrollFault
told (fault.TooMany part) = TooMany part
told fault.Memory = OutOfMemory
