-- As what it is told that a search has no answer.
use Rattle.planner.specs.outcome.SolveFault.{SolveFault}
use Rattle.planner.specs.outcome.SolveFault.TheVariants as solving
use Rattle.command_streams.specs.declared.ending.SearchFault.{SearchFault}
use Rattle.command_streams.specs.declared.ending.SearchFault.TheVariants as search

-- the fault that each of a search's own is told as
abbrev pub told_as : SolveFault → SearchFault
told_as solving.Memory = search.Memory
told_as solving.Thread = search.Thread
