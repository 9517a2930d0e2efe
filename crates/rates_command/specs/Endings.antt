-- The exit status of each end.
use Rattle.std.specs.Prelude.{ℕ}
use Rattle.command_streams.specs.Endings.{fault_status}
use Rattle.rates_text.specs.declared.error.RatesTextError.TheVariants as text
use Rattle.endless_schedules.specs.declared.unrolling.UnrollFault.TheVariants as unrolled
use Rattle.rates_command.specs.declared.ending.RatesFault.{RatesFault}
use Rattle.rates_command.specs.declared.ending.RatesFault.TheVariants.{Memory, Text, Unrolled, Unread, TooLong, OfPlan, Unwritten}
use Rattle.rates_command.specs.declared.ending.RatesEnd.{RatesEnd}
use Rattle.rates_command.specs.declared.ending.RatesEnd.TheVariants.{Done, Refused}

-- of a refusal: 3 what is asked of a text, 4 memory, 6 a stream, and what `verify` has of a plan
abbrev pub rates_fault_status : RatesFault → ℕ
rates_fault_status Memory = 4
rates_fault_status (Text text.OutOfMemory) = 4
rates_fault_status (Text error) = 3
rates_fault_status (Unrolled unrolled.OutOfMemory) = 4
rates_fault_status (Unrolled fault) = 3
rates_fault_status Unread = 6
rates_fault_status TooLong = 6
rates_fault_status (OfPlan fault) = fault_status fault
rates_fault_status Unwritten = 6

-- of an end
abbrev pub rates_status_of : RatesEnd → ℕ
rates_status_of Done = 0
rates_status_of (Refused fault) = rates_fault_status fault
