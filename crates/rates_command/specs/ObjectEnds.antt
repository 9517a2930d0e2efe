-- How a command on clusters of several rates ends that answers by one JSON object.
use Rattle.std.specs.Prelude.{◌≡◌}
use Rattle.json_answers.specs.declared.answers.ObjectFault.{ObjectFault}
use Rattle.json_answers.specs.declared.answers.ObjectFault.TheVariants as untold
use Rattle.rates_command.specs.declared.ending.RatesFault.{RatesFault}
use Rattle.rates_command.specs.declared.ending.RatesFault.TheVariants.{Memory, Unwritten}
use Rattle.rates_command.specs.declared.ending.RatesEnd.{RatesEnd}
use Rattle.rates_command.specs.declared.ending.RatesEnd.TheVariants.{Done, Refused}

-- the fault for which an object isn't written as a whole
abbrev pub rates_fault_of : ObjectFault → RatesFault
rates_fault_of untold.Memory = Memory
rates_fault_of untold.Unwritten = Unwritten

-- what that makes of an end: a refusal stays
abbrev pub IsRatesEndOr : ObjectFault → RatesEnd → RatesEnd → Type 0
IsRatesEndOr why (Refused first) end = end ≡ Refused first
IsRatesEndOr why Done end = end ≡ Refused (rates_fault_of why)

-- the end of a command whose text is kept in memory: there the writer fails for want of it alone
abbrev pub rates_in_memory : RatesEnd → RatesEnd
rates_in_memory (Refused Unwritten) = Refused Memory
rates_in_memory end = end
