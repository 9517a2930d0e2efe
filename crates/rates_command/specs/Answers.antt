-- What the commands on clusters of several rates answer of the bytes of one, and what they write.
use Rattle.std.specs.Prelude.{ℕ, ◌<◌, ◌≤◌, List, length, Option, Ok}
use Rattle.std.specs.Io.KnownBytes.{Keeps}
use Rattle.ttp_model.specs.Instance.{Instance}
use Rattle.instance_text.specs.Faults.{States}
use Rattle.command_streams.specs.Outcomes.{IsWritten}
use Rattle.command_streams.specs.Streams.{AppendsPart}
use Rattle.rates_model.specs.Rates.{Rates}
use Rattle.rates_text.specs.Faults.{IsFirstRatesFault, StatesRates}
use Rattle.endless_schedules.specs.declared.unrolling.UnrollFault.{UnrollFault}
use Rattle.endless_schedules.specs.Refusals.{IsUnrollFault}
use Rattle.endless_schedules.specs.Unrolled.{unrolled}
use Rattle.rates_command.specs.declared.limits.TheConstants.{RATES_LIMIT}
use Rattle.rates_command.specs.declared.ending.RatesFault.{RatesFault}
use Rattle.rates_command.specs.declared.ending.RatesFault.TheVariants.{Memory, Text, Unrolled, Unread, TooLong, OfPlan, Unwritten}
use Rattle.rates_command.specs.declared.ending.RatesEnd.{RatesEnd}
use Rattle.rates_command.specs.declared.ending.RatesEnd.TheVariants.{Done, Refused}

-- the bytes are within their limit, and state this cluster
pub record HasRates (bytes : List ℕ) (rho : Rates) : Type 0 where
  pub within : length bytes ≤ RATES_LIMIT
  pub states : StatesRates bytes (Ok rho)

-- the instance of a cycle of the cluster that bytes state is refused
pub record IsNotUnrolled (bytes : List ℕ) (fault : UnrollFault) : Type 0 where
  pub rates : Rates
  pub has : HasRates bytes rates
  pub refused : IsUnrollFault rates fault

-- why bytes give no cluster, or it has no instance
abbrev pub AreRefusedFor : List ℕ → RatesFault → Type 0
AreRefusedFor bytes Memory = Unit {0}
AreRefusedFor bytes (Text error) = (length bytes ≤ RATES_LIMIT) × IsFirstRatesFault bytes error
AreRefusedFor bytes (Unrolled fault) = IsNotUnrolled bytes fault
AreRefusedFor bytes Unread = Unit {0}
AreRefusedFor bytes TooLong = RATES_LIMIT < length bytes
AreRefusedFor bytes (OfPlan fault) = ⊥
AreRefusedFor bytes Unwritten = ⊥

-- the fault is one of the bytes alone, whatever is made of what they state
abbrev pub IsOfBytes : RatesFault → Type 0
IsOfBytes Memory = Unit {0}
IsOfBytes (Text error) = Unit {0}
IsOfBytes Unread = Unit {0}
IsOfBytes TooLong = Unit {0}
IsOfBytes _ = ⊥

-- a text that states the instance of a cycle
pub record IsUnrolledText (bytes text : List ℕ) : Type 0 where
  pub rates : Rates
  pub has : HasRates bytes rates
  pub states : States text (Ok (unrolled rates))

-- the writer gained a prefix of such a text
pub record IsPartOfText (IsText : List ℕ → Type 0) (old new : Option (List ℕ)) : Type 0 where
  pub text : List ℕ
  pub is : IsText text
  pub part : AppendsPart old new text

-- what a command with one text answers, and what it has written then: its text, a prefix of it, or nothing
abbrev pub IsRatesAnswer : (List ℕ → Type 0) → (RatesFault → Type 0) → Option (List ℕ) → Option (List ℕ) → RatesEnd → Type 0
IsRatesAnswer IsText AreRefused old new Done = IsWritten IsText old new
IsRatesAnswer IsText AreRefused old new (Refused Unwritten) = IsPartOfText IsText old new
IsRatesAnswer IsText AreRefused old new (Refused fault) = AreRefused fault × Keeps old new

-- the fault is want of memory
abbrev pub IsOfMemory : RatesFault → Type 0
IsOfMemory Memory = Unit {0}
IsOfMemory _ = ⊥

-- or why a cluster has no instance
abbrev pub IsOfUnrolling : Rates → RatesFault → Type 0
IsOfUnrolling rho Memory = Unit {0}
IsOfUnrolling rho (Unrolled fault) = IsUnrollFault rho fault
IsOfUnrolling rho _ = ⊥

-- the text states an instance
abbrev pub IsOfInstance : Instance → List ℕ → Type 0
IsOfInstance i text = States text (Ok i)

-- what `unroll` answers of bytes, and what it writes
abbrev pub IsUnrollAnswer : List ℕ → Option (List ℕ) → Option (List ℕ) → RatesEnd → Type 0
IsUnrollAnswer bytes = IsRatesAnswer (IsUnrolledText bytes) (AreRefusedFor bytes)
