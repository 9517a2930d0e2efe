-- When one of the lists of a cycle is too long: the first that is.
use Rattle.std.specs.Prelude.{◌<◌, ◌≤◌, length}
use Rattle.ttp_model.specs.declared.error.Part.{Part}
use Rattle.ttp_model.specs.declared.error.Part.TheVariants.{Nodes, Processes, Links, Messages}
use Rattle.ttp_model.specs.Limits.{most_processes, most_links, most_messages}
use Rattle.rates_model.specs.Rates.{Rates}
use Rattle.endless_schedules.specs.declared.fault.TableFault.{TableFault}
use Rattle.endless_schedules.specs.declared.fault.TableFault.TheVariants.{TooMany, Memory}
use Rattle.endless_schedules.specs.Unrolled.{unrolled_processes, unrolled_links, unrolled_messages}

-- this list is too long, and those before it aren't
abbrev pub IsTooMany : Rates → Part → Type 0
IsTooMany rho Nodes = ⊥
IsTooMany rho Processes = most_processes < length (unrolled_processes rho)
IsTooMany rho Links = (length (unrolled_processes rho) ≤ most_processes) × (most_links < length (unrolled_links rho))
IsTooMany rho Messages =
    (length (unrolled_processes rho) ≤ most_processes) × (length (unrolled_links rho) ≤ most_links)
    × (most_messages < length (unrolled_messages rho))

-- why there are no tables
abbrev pub IsTableFault : Rates → TableFault → Type 0
IsTableFault rho Memory = Unit {0}
IsTableFault rho (TooMany part) = IsTooMany rho part
