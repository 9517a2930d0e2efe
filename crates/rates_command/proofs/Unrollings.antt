-- An answer of what bytes state is one of the bytes.
use Rattle.std.proofs.Common.{◌≡◌, ℕ, List, Option, None, Some, IfSome, Ok}
use Rattle.std.specs.Io.KnownBytes.{Keeps}
use Rattle.rates_model.specs.Rates.{Rates}
use Rattle.endless_schedules.specs.declared.unrolling.UnrollFault.{UnrollFault}
use Rattle.endless_schedules.specs.Unrolled.{unrolled}
use Rattle.rates_command.specs.declared.ending.RatesFault.{RatesFault}
use Rattle.rates_command.specs.declared.ending.RatesFault.TheVariants.{Memory, Text, Unrolled, Unread, TooLong, OfPlan, Unwritten}
use Rattle.rates_command.specs.declared.ending.RatesEnd.{RatesEnd}
use Rattle.rates_command.specs.declared.ending.RatesEnd.TheVariants.{Done, Refused}
use Rattle.rates_command.specs.Answers.{AreRefusedFor, HasRates, IsOfInstance, IsOfUnrolling, IsRatesAnswer, IsUnrollAnswer, IsUnrolledText}

-- with weaker words for its text and its fault
module _ (IsText IsOther : List ℕ → Type 0) (texts : (text : List ℕ) → IsText text → IsOther text)
    (AreRefused AreOtherwise : RatesFault → Type 0) (refused : (fault : RatesFault) → AreRefused fault → AreOtherwise fault) where
  pub answered : (old new : Option (List ℕ)) (end : RatesEnd) → IsRatesAnswer IsText AreRefused old new end → IsRatesAnswer IsOther AreOtherwise old new end
  answered old new Done told = record { text = told.text; is = texts told.text told.is; appends = told.appends }
  answered old new (Refused Unwritten) told = record { text = told.text; is = texts told.text told.is; part = told.part }
  answered old new (Refused Memory) told = (refused Memory told.0, told.1)
  answered old new (Refused (Text error)) told = (refused (Text error) told.0, told.1)
  answered old new (Refused (Unrolled fault)) told = (refused (Unrolled fault) told.0, told.1)
  answered old new (Refused Unread) told = (refused Unread told.0, told.1)
  answered old new (Refused TooLong) told = (refused TooLong told.0, told.1)
  answered old new (Refused (OfPlan fault)) told = (refused (OfPlan fault) told.0, told.1)

module _ (bytes : List ℕ) (rho : Rates) (has : HasRates bytes rho) where
  stated : (text : List ℕ) → IsOfInstance (unrolled rho) text → IsUnrolledText bytes text
  stated text states = record { rates = rho; has = has; states = states }

  pub not_unrolled : (fault : RatesFault) → IsOfUnrolling rho fault → AreRefusedFor bytes fault
  not_unrolled Memory why = tt
  not_unrolled (Unrolled fault) why = record { rates = rho; has = has; refused = why }
  not_unrolled (Text error) why = absurd why
  not_unrolled Unread why = absurd why
  not_unrolled TooLong why = absurd why
  not_unrolled (OfPlan fault) why = absurd why
  not_unrolled Unwritten why = absurd why

  unrolled_answer : (old new : Option (List ℕ)) (end : RatesEnd) → IsRatesAnswer (IsOfInstance (unrolled rho)) (IsOfUnrolling rho) old new end → IsUnrollAnswer bytes old new end
  unrolled_answer old new end told =
      answered (IsOfInstance (unrolled rho)) (IsUnrolledText bytes) stated (IsOfUnrolling rho) (AreRefusedFor bytes) not_unrolled old new end told

-- of what a reader tells, where it does
pub told_of_reader : (known : Option (List ℕ)) (rho : Rates) (old new : Option (List ℕ)) (end : RatesEnd) → IfSome known (λ bytes. HasRates bytes rho)
    → IsRatesAnswer (IsOfInstance (unrolled rho)) (IsOfUnrolling rho) old new end → IfSome known (λ bytes. IsUnrollAnswer bytes old new end)
told_of_reader None rho old new end has told = tt
told_of_reader (Some bytes) rho old new end has told = unrolled_answer bytes rho has old new end told

-- nothing is written at a fault
pub refused_so : (IsText : List ℕ → Type 0) (AreRefused : RatesFault → Type 0) → ¬ AreRefused Unwritten → (old : Option (List ℕ)) (fault : RatesFault) → Keeps old old → AreRefused fault
    → IsRatesAnswer IsText AreRefused old old (Refused fault)
refused_so IsText AreRefused never old Unwritten kept why = absurd (never why)
refused_so IsText AreRefused never old Memory kept why = (why, kept)
refused_so IsText AreRefused never old (Text error) kept why = (why, kept)
refused_so IsText AreRefused never old (Unrolled fault) kept why = (why, kept)
refused_so IsText AreRefused never old Unread kept why = (why, kept)
refused_so IsText AreRefused never old TooLong kept why = (why, kept)
refused_so IsText AreRefused never old (OfPlan fault) kept why = (why, kept)

pub refused_of_reader : (known old : Option (List ℕ)) (fault : RatesFault) → Keeps old old → IfSome known (λ bytes. AreRefusedFor bytes fault)
    → IfSome known (λ bytes. IsUnrollAnswer bytes old old (Refused fault))
refused_of_reader None old fault kept why = tt
refused_of_reader (Some bytes) old fault kept why = refused_so (IsUnrolledText bytes) (AreRefusedFor bytes) (λ never. never) old fault kept why
